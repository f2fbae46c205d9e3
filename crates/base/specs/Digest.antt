-- Digests: 32 bytes, as eight words of four bytes each, low byte first.
use Rattle.std.specs.Prelude.{List, ℕ}
use Rattle.reading.specs.Numbers.{word_bytes}
use Rattle.base.specs.declared.digest.Digest.{Digest}

abbrev pub digest_bytes : Digest → List ℕ
digest_bytes d = word_bytes d.0
