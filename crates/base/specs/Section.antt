-- A section's part of the file: 10 over the limit, 4 if it is not in the file behind the header, also at size 0, otherwise its place.
use Rattle.std.specs.Prelude.{ℕ, ◌+◌, ◌≤◌, cond, List, [], leb, length, Result, IfOk}
use Rattle.reading.specs.Reader.{Reader}
use Rattle.reading.specs.Answer.{Got, refused, found, ◌>>=◌, ◌>>◌, need}
use Rattle.reading.specs.Places.{Next, faulty, step_of}
use Rattle.reading.specs.declared.Table.{Table}
use Rattle.format.specs.Faults.{too_long, section_size_mismatch}
use Rattle.format.specs.Parts.{limit, Place, cut, is_inside}
use Rattle.base.specs.declared.error.ContainerError.{ContainerError}
use Rattle.base.specs.declared.section.Part.{Part}
use Rattle.base.specs.declared.section.Section.{Section}

-- a part of the code as a place
abbrev pub part_in : Part → Place
part_in p = record { offset = p.offset; size = p.size }

-- its bytes; none if it does not lie in the file
unfoldable pub bytes_of : List ℕ → Place → List ℕ
bytes_of f p = cond (leb (p.offset + p.size) (length f)) (cut f p) []

-- an answered part lies in the file. For a section's part this follows from `section_part`; it is stated for callers, who slice by it
abbrev pub PartWithin : List ℕ → Result Part ContainerError → Type 0
PartWithin f answer = IfOk answer (λ p. p.offset + p.size ≤ length f)

-- a section of the code as a place
abbrev pub place_in : Section → Place
place_in s = record { offset = s.offset; size = s.size }

unfoldable pub section_part : List ℕ → Place → Got Place
section_part f p = need (leb (length f) limit) too_long >> need (is_inside f p) section_size_mismatch >> found p

-- the same with its bytes
abbrev pub opened : List ℕ → Place → Place × List ℕ
opened f p = (p, cut f p)

abbrev pub section_cut : List ℕ → Place → Got (Place × List ℕ)
section_cut f p = section_part f p >>= λ q. found (opened f q)

-- one step of a walk over a table of the section at a place, over any file, place and table: 10, then 4, then the step
abbrev pub step_by : {A : Type 0} → List ℕ → Got Place → Reader A → Table → Next A
step_by f (refused e) r t = faulty e
step_by f (found p) r t = step_of r (cut f p) t

abbrev pub step_in : {A : Type 0} → List ℕ → Place → Reader A → Table → Next A
step_in f p r t = step_by f (section_part f p) r t

-- the bytes of an answered part; none if the answer is a refusal
abbrev pub bytes_or : List ℕ → Got Place → List ℕ
bytes_or f (refused e) = []
bytes_or f (found p) = cut f p
