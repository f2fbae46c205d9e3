-- How long the listing of a file can be.
use Rattle.std.specs.Prelude.{ℕ, ◌+◌, ◌*◌, ◌<◌, ◌≤◌, ◌≡◌, List, Some, length, get_or}
use Rattle.format.specs.Parts.{program_limit}
use Rattle.format.specs.Load.{load}
use Rattle.format.specs.Record.{for_program}
use Rattle.lent.specs.Output.{put_answer}
use Rattle.text.specs.Text.{ascii}
use Rattle.listing.specs.Listing.{listing_of}

-- the bytes that a program lends for the text of a file: the page of `file_listing`
abbrev pub listing_room : ℕ
listing_room = 2097152

-- every element is a byte; past the end of the list `get_or` gives 0
abbrev pub AllBytes : List ℕ → Type 0
AllBytes f = (i : ℕ) → get_or f i 0 < 256

pub record Laws (hash : List ℕ → List ℕ) : Type 0 where
  -- Of any file, also where its sections overlap: 26 bytes of text for each of its bytes are enough for the lines of entries, and 300 for the
  -- others. The 26 are 4 for tasks and programs, 5 for types, 9 for constants, 4 for functions and 4 for lines
  pub linear : (f : List ℕ) → AllBytes f → length (listing_of (load hash f)) ≤ 26 * length f + 300
  -- up to the programs' limit a program lists what the library does, above it the line of refusal 10, whatever the library's limit is
  pub within : (f : List ℕ) → length f ≤ program_limit → listing_of (for_program f (load hash f)) ≡ listing_of (load hash f)
  pub above : (f : List ℕ) → program_limit < length f → listing_of (for_program f (load hash f)) ≡ ascii "refused 10 -\n"
  -- what a program lists fits the room lent for it, whatever the file and its length
  pub fits : (f : List ℕ) → AllBytes f → length (listing_of (for_program f (load hash f))) ≤ listing_room
  -- so whatever a buffer of that room holds, the text is written there, and never refused for lack of room
  pub always-put : (f before : List ℕ) → AllBytes f → listing_room ≤ length before
      → put_answer before 0 (listing_of (for_program f (load hash f))) ≡ Some (length (listing_of (for_program f (load hash f))))

-- for any hash
abbrev pub AllLaws : Type 0
AllLaws = (hash : List ℕ → List ℕ) → Laws hash
