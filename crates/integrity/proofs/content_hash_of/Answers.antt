-- `integrity::content_hash_of` meets its contract: each call feeds the next part, and feeding in parts is hashing the whole.
use mathlib.Core.Path.{ap, ◌∙◌}
use mathlib.Core.List.{[], ◌∷◌, append-nil, append_assoc}
use Rattle.format.specs.Integrity.{masked_header}
use Rattle.blake3.specs.Blake3.{hash_asked, finish_asked}
use Rattle.blake3.proofs.Laws.{laws}
use Rattle.integrity.proofs.content_hash_of.Goals as goal

pub returns : goal.returns
returns c =
    let a = c.args in
    c.finish.ensures
    ∙ ap finish_asked
    (rw (c.fed_with.ensures, c.fed_with-state-4.ensures, c.fed_with-state-3.ensures, c.fed_with-state-2.ensures, c.fed_with-state.ensures, c.new.ensures, c.masked-image.ensures))
    ∙ laws.parts (masked_header a.header.now ∷ a.task_table.now ∷ a.type_section.now ∷ a.const_section.now ∷ a.code_section.now ∷ [])
    ∙ ap hash_asked (simp (append-nil, append_assoc))
