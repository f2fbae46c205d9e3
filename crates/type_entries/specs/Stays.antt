-- What the readers of this section's entries leave is what stands behind the entry.
use Rattle.std.specs.Prelude.{ℕ, List}
use Rattle.reading.proofs.Local.{Local, local-give, local-bind}
use Rattle.reading.proofs.Left.{Stays, stays-local}
use Rattle.format.specs.Lookups.{fb_type_head_of}
use Rattle.format.proofs.Readers.{local-fb-type}
use Rattle.type_entries.specs.Answers.{fb_type_head}

local-head : Local fb_type_head
local-head = local-bind local-fb-type λ b. local-give (fb_type_head_of b)

pub fb_type_head_stays : (s : List ℕ) → Stays s fb_type_head
fb_type_head_stays s = stays-local s local-head
