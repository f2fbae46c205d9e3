-- `constant_pool::kept_at` meets its contract: a string's place is counted from the file's start.
use Rattle.base.specs.Small.{const_type_number}
use Rattle.constant_pool.proofs.Entries.{string-kept, number-kept}
use Rattle.constant_pool.proofs.kept_at.Goals as goal

pub returns-then-is_string_like : goal.returns-then-is_string_like
returns-then-is_string_like c =
    let a = c.args in
    string-kept (const_type_number a.const_type) a.size _ c.is_string_like.ensures a.cut.offset a.cut.bytes.now a.at c.requires.size_in_bounds c.if-is_string_like.true

pub returns : goal.returns
returns c =
    let a = c.args in
    number-kept (const_type_number a.const_type) a.size _ c.is_string_like.ensures a.cut.offset a.cut.bytes.now a.at c.requires.size_in_bounds c.number_at.result c.if-is_string_like.false c.number_at.ensures
