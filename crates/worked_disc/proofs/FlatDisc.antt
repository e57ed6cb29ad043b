-- The flat files: every test of the table holds, by computing it.
use mathlib.Core.List.{flatten}
use mathlib.Core.Option.{or_else}
use lib.Dec.{T}
use Rattle.crc64.specs.Crc.{crc_of}
use Rattle.fields.specs.Bytes.{part, from_le, to_le, field, overwrite, equal}
use Rattle.fields.specs.Layout.{layout}
use Rattle.format.specs.Tests.{same, differs, below, at_least, less_than, ◌or◌, ◌and◌, choose, all_hold}
use Rattle.format.specs.Refusals.{row, ◌then◌, first_refusal, answer}
use Rattle.format.specs.Layouts.{tag, index_offset, header_bytes, entry_count, entry_at, entries_from, entries, entry_bytes, index_header, index_bytes, block_header, block_bytes, table_header, table_bytes, table_alignment, table_negative, entry_status, entry_pointer, decode, encode}
use Rattle.format.specs.Opening.{lacks, is_type, is_user_data, header_verdict, index_verdict, entry_verdict, entries_verdict, offsets_with, is_table, one_of, one_verdict, table_at, kind_by, kind_at, extent_verdict, table_malformed, sums_differ, payload_verdict, table_verdict, open_verdict, opened_as, opened}
use Rattle.format.specs.Reading.{displaced, outside, entry_number, table_entry, unwritten, not_written, unknown, unknown_status, pointer_at, has, block_malformed, block_verdict, item_verdict, pointer_verdict, sector_verdict, place_of, item_bytes}
use Rattle.format.specs.Writing.{buffer_verdict, is_second, writable_verdict, outcome, set_header}
use Rattle.format.specs.Creating.{created_index_at, created_used, created_bytes, create_verdict, create}
use Rattle.format.specs.Committing.{pieces, first_with, given, holds_sector, on_disc, among_stored, step_for, store_one, store_all, old_pointer, new_pointer, new_pointers, item_or_zero, largest_item, shift_from, shift_for, table_entry_bytes, new_table, kept_entry, kept_entries, new_block, new_block_entry, appended_for, stored_for, pointers_for, appended, table_start, index_start, used_after, appended_bytes, rising_by, arguments_verdict, any_outside, entry_numbers, other_than_21, sectors_verdict, disc_verdict, append, commit_verdict, commit}
use Rattle.format.specs.Lists.{of_each}
use Rattle.format.specs.Exporting.{size_at, size_from, flat_size, piece_at, flat_file, size_verdict, file_verdict, exact_verdict, export_exact}
use Rattle.format.specs.Importing.{import_verdict, or_leaves, and_then, import}
use Rattle.worked_disc.specs.WorkedDisc.{leaves, refused_with, has_table}
use Rattle.worked_disc.specs.FlatDisc.{exports, flat_disc}

pub flat-disc : T (all_hold flat_disc)
unfolding all_hold leaves refused_with has_table exports flat_disc of_each size_at size_from flat_size piece_at flat_file size_verdict file_verdict exact_verdict export_exact import_verdict or_leaves and_then import buffer_verdict crc_of part from_le to_le field overwrite equal layout same differs below at_least ◌or◌ ◌and◌ choose flatten pieces first_with given row ◌then◌ first_refusal answer tag lacks index_offset header_bytes entry_count entry_at entries_from entries is_type is_user_data entry_bytes index_header index_bytes block_header block_bytes table_header table_bytes decode encode header_verdict index_verdict entry_verdict entries_verdict one_of one_verdict table_at table_malformed sums_differ table_verdict open_verdict opened table_entry not_written pointer_at has block_malformed block_verdict item_verdict pointer_verdict sector_verdict place_of item_bytes outcome set_header created_index_at created_used created_bytes create_verdict create holds_sector on_disc among_stored step_for store_one store_all old_pointer or_else new_pointer new_pointers item_or_zero largest_item shift_from shift_for table_entry_bytes new_table kept_entry kept_entries new_block new_block_entry appended_for stored_for pointers_for appended table_start index_start used_after appended_bytes arguments_verdict any_outside other_than_21 sectors_verdict disc_verdict append commit_verdict commit less_than table_alignment table_negative entry_status entry_pointer offsets_with is_table kind_by kind_at extent_verdict payload_verdict opened_as displaced outside entry_number unwritten unknown unknown_status is_second writable_verdict rising_by entry_numbers
flat-disc = tt
