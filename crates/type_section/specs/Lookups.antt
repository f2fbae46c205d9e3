-- What the section's reader, its lookups and its walks answer: over the section's bytes `s`, and over a file and the section's place `p` in it.
use Rattle.std.specs.Prelude.{ℕ, ◌+◌, List, length, take}
use Rattle.reading.specs.Answer.{Got, found, ◌>>=◌, item_of, indexed}
use Rattle.reading.specs.Places.{Next, ends, faulty, entry, step_of}
use Rattle.reading.specs.declared.Table.{Table}
use Rattle.format.specs.Faults.{no_entry}
use Rattle.format.specs.Parts.{Place}
use Rattle.format.specs.Types.{Field, field, FbType, fb_type, Array, array, UserFb, user_fb, type_tables}
use Rattle.format.specs.Record.{TypeCounts}
use Rattle.format.specs.Lookups.{read_at, FbTypeHead, fb_type_head_of, fb_type_of, field_of, array_of, array_size_of, user_fb_of}
use Rattle.base.specs.Section.{step_in}
use Rattle.type_entries.specs.Starts.{count_size, fb_types_size, fb_types_start, arrays_start, user_fbs_start, fields_start, type_starts_of}
use Rattle.type_entries.specs.declared.Tables.{Tables}

-- the section's reader: the counts that the record keeps
abbrev pub type_counts_of_section : List ℕ → Got TypeCounts
type_counts_of_section s = item_of (type_tables s) >>= λ t. found (record { fb_types = length t.fb_types; arrays = length t.arrays; user_fbs = length t.user_fbs })

-- Lookups in the section's bytes

-- the answer for an FB type: its head, and the table of its fields, which stands behind the head
pub record FbTypeEntry : Type 0 where
  pub head : FbTypeHead
  pub fields : Table

abbrev pub fb_type_entry : ℕ → FbType → FbTypeEntry
fb_type_entry at b = record { head = fb_type_head_of b; fields = fields_start at b }

-- the FB type at an index stands behind the count and the FB types before it
abbrev pub fb_type_of_section : List ℕ → ℕ → Got FbTypeEntry
fb_type_of_section s i = item_of (type_tables s) >>= λ t. indexed no_entry t.fb_types i >>= λ b. found (fb_type_entry (count_size + fb_types_size (take i t.fb_types)) b)

abbrev pub field_of_section : List ℕ → ℕ → ℕ → Got Field
field_of_section s i j = item_of (type_tables s) >>= field_of i j

abbrev pub array_of_section : List ℕ → ℕ → Got Array
array_of_section s i = item_of (type_tables s) >>= array_of i

abbrev pub user_fb_of_section : List ℕ → ℕ → Got UserFb
user_fb_of_section s i = item_of (type_tables s) >>= user_fb_of i

-- Lookups in the file

abbrev pub fb_type_at : List ℕ → Place → ℕ → Got FbTypeHead
fb_type_at f p i = read_at f p type_tables >>= fb_type_of i

abbrev pub field_at : List ℕ → Place → ℕ → ℕ → Got Field
field_at f p i j = read_at f p type_tables >>= field_of i j

abbrev pub array_at : List ℕ → Place → ℕ → Got Array
array_at f p i = read_at f p type_tables >>= array_of i

abbrev pub array_size_at : List ℕ → Place → ℕ → Got ℕ
array_size_at f p i = read_at f p type_tables >>= array_size_of i

abbrev pub user_fb_at : List ℕ → Place → ℕ → Got UserFb
user_fb_at f p i = read_at f p type_tables >>= user_fb_of i

-- Where walks start

abbrev pub tables_at : List ℕ → Place → Got Tables
tables_at f p = read_at f p type_tables >>= λ t. found (type_starts_of t)

abbrev pub fb_types_at : List ℕ → Place → Got Table
fb_types_at f p = read_at f p type_tables >>= λ t. found (fb_types_start t)

abbrev pub arrays_at : List ℕ → Place → Got Table
arrays_at f p = read_at f p type_tables >>= λ t. found (arrays_start t)

abbrev pub user_fbs_at : List ℕ → Place → Got Table
user_fbs_at f p = read_at f p type_tables >>= λ t. found (user_fbs_start t)

-- Steps

-- an FB type, with the table of its fields
abbrev pub with_fields : Table → Next FbType → Next FbTypeEntry
with_fields t ends = ends
with_fields t (faulty f) = faulty f
with_fields t (entry b u) = entry (fb_type_entry t.at b) u

abbrev pub fb_type_step_of : List ℕ → Table → Next FbTypeEntry
fb_type_step_of s t = with_fields t (step_of fb_type s t)

abbrev pub next_fb_type_at : List ℕ → Place → Table → Next FbTypeEntry
next_fb_type_at f p t = with_fields t (step_in f p fb_type t)

abbrev pub next_field_at : List ℕ → Place → Table → Next Field
next_field_at f p t = step_in f p field t

abbrev pub next_array_at : List ℕ → Place → Table → Next Array
next_array_at f p t = step_in f p array t

abbrev pub next_user_fb_at : List ℕ → Place → Table → Next UserFb
next_user_fb_at f p t = step_in f p user_fb t
