-- The claims of `specs/Laws.antt`, by computing.
use mathlib.Core.Path.{refl}
use Rattle.reading.specs.Numbers.{le}
use Rattle.reading.specs.Reader.{bytes}
use Rattle.format.specs.Parts.{is_inside}
use Rattle.format.specs.Header.{runtime_of, directory_of, header_of}
use Rattle.format.specs.Tasks.{task_table, task, program}
use Rattle.format.specs.Types.{type_tables, fb_type, array, user_fb}
use Rattle.format.specs.Constants.{constants, constant, kept_of}
use Rattle.format.specs.Code.{code_of, function}
use Rattle.format.specs.Debug as debug
use Rattle.format.specs.Debug.{debug_tables, rows_of, payload_of, tag_of, size_of, kind_of}
use Rattle.format.specs.Integrity.{section_in, content_fits, debug_hash_fits}
use Rattle.format.specs.Load.{load, read_in, has_types, types_found, debug_of, debug_found}
use Rattle.text.specs.Text.{digits, numbers, hexes}
use Rattle.listing.specs.Listing.{each, indexed_from}
use Rattle.listing.specs.Laws.{AllLaws}

pub laws : AllLaws
unfolding load header_of runtime_of directory_of le bytes content_fits read_in section_in is_inside task_table task program types_found has_types type_tables fb_type array user_fb constants constant kept_of code_of function debug_found debug_of debug_hash_fits debug_tables rows_of payload_of tag_of size_of kind_of debug.line digits numbers hexes each indexed_from
laws hash =
    record {
      task-listed = refl;
      program-listed = refl;
      function-listed = refl;
      line-listed = refl;
      counts-listed = refl;
      mill-listed = refl;
      tiny-listed = refl;
      short-refused = refl;
      one_value = refl;
      two-values = refl;
      types-listed = refl;
      nothing-kept = refl;
      zeros-counted = refl;
    }
