-- `base::digest::Digest::equals` meets its contract: words are the same exactly if their bytes are.
use Rattle.std.proofs.Common.{◌≡◌, List, ℕ, [], ◌∷◌, refl, sym, ◌∙◌, rules}
use lib.Dec.{eqb}
use lib.Pointwise.{pointwise}
use Rattle.format.specs.Parts.{same}
use Rattle.base.proofs.Bytes.{same-words}
use Rattle.base.proofs.digest.Digest.equals.Goals as goal

-- lists of numbers compared by the derived `==`
same_as : (a b : List ℕ) → pointwise eqb a b ≡ same a b
same_as [] [] = refl
same_as [] (y ∷ b) = refl
same_as (x ∷ a) [] = refl
same_as (x ∷ a) (y ∷ b) = rw (same_as a b)

pub returns : goal.returns
returns c =
    let a = c.args.self.0 in
    let b = c.args.other.0 in
    c.eq.ensures ∙ same_as a b ∙ sym (same-words a b (search rules) (search rules))
