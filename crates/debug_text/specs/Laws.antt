-- Document 02, slip 1: "Every name and path reader passes it up as a place within the debug section." The contracts compare a fault by the bytes left
-- in the section. This fixes its place: an answer that meets a contract and tells a bad text tells the place of the text's first bad byte.
use Rattle.std.specs.Prelude.{ℕ, ◌+◌, ◌≤◌, ◌<◌, ◌≡◌, List, length, Result, Err}
use Rattle.reading.specs.Numbers.{le_at}
use Rattle.reading.specs.Places.{step_at}
use Rattle.format.specs.Debug.{text, name, path}
use Rattle.requests.specs.BadPlace.{BadAt}
use Rattle.debug_text.specs.Answers.{keep_in, text_step}
use Rattle.base.specs.declared.section.Part.{Part}
use Rattle.debug_text.specs.declared.DebugFault.{DebugFault}
use Rattle.debug_text.specs.declared.DebugFault.TheVariants as debug_fault

abbrev pub bad_at : ℕ → Result (Part × ℕ) DebugFault
bad_at p = Err (debug_fault.BadText p)

abbrev pub short : Result (Part × ℕ) DebugFault
short = Err debug_fault.Short

-- at the place `at` of the section `s`, which is at `base` of the file
pub record Places (base : ℕ) (s : List ℕ) (at : ℕ) : Type 0 where
  pub text-place : (n p : ℕ) → text_step s (bad_at p) ≡ step_at (text (keep_in base s) n) s at → BadAt s at n p
  -- a name's text stands behind its size of one byte, a path's behind its size of two
  pub name-place : (p : ℕ) → text_step s (bad_at p) ≡ step_at (name (keep_in base s)) s at → BadAt s (at + 1) (le_at 1 s at) p
  pub path-place : (p : ℕ) → text_step s (bad_at p) ≡ step_at (path (keep_in base s)) s at → BadAt s (at + 2) (le_at 2 s at) p
  -- a text that does not lie whole in the section is short input and has no place, whatever its bytes are
  pub text-short : (n : ℕ) → length s < at + n → text_step s short ≡ step_at (text (keep_in base s) n) s at

pub record Laws : Type 0 where
  pub places : (base : ℕ) (s : List ℕ) (at : ℕ) → at ≤ length s → Places base s at
