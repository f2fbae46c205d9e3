-- `base::digest::Digest::is_zero` meets its contract: the bytes of eight zeros are 32 zeros.
use Rattle.reading.specs.Numbers.{bytes_le, word_bytes}
use Rattle.base.proofs.digest.Digest.is_zero.Goals as goal

pub returns : goal.returns
unfolding word_bytes bytes_le
returns c = c.equals.ensures
