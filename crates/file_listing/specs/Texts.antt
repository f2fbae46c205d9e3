-- What is written for a file: document 01's listing of what loading it gives.
use Rattle.std.specs.Prelude.{ℕ, List}
use Rattle.format.specs.Load.{load}
use Rattle.format.specs.Record.{for_program}
use Rattle.blake3.specs.Blake3.{blake3}
use Rattle.listing.specs.Listing.{listing_of}

-- the listing of any file, loaded or refused, with BLAKE3 as the hash
abbrev pub file_listing : List ℕ → List ℕ
file_listing f = listing_of (load blake3 f)

-- the listing that a program prints: above the programs' limit the line of refusal 10
abbrev pub program_listing : List ℕ → List ℕ
program_listing f = listing_of (for_program f (load blake3 f))
