-- `capi::container_list` meets its contract: no text, or the listing and its length.
use Rattle.capi.proofs.Filled.{listed}
use Rattle.capi.proofs.container_list.Goals as goal

pub returns : goal.returns
returns c = rw c.unwrap_or.ensures (listed _ c.put_file.ensures)
