-- Every test of the disc with a table of the second kind holds, by computing it.
use mathlib.Core.List.{flatten}
use lib.Dec.{T}
use Rattle.crc64.specs.Crc.{crc_of}
use Rattle.fields.specs.Bytes.{part, from_le, to_le, field, overwrite, equal}
use Rattle.fields.specs.Layout.{layout}
use Rattle.format.specs.Tests.{same, differs, below, at_least, less_than, ◌or◌, ◌and◌, choose, all_hold}
use Rattle.format.specs.Refusals.{row, ◌then◌, answer}
use Rattle.format.specs.Layouts.{tag, index_offset, header_bytes, entry_count, entry_at, entries_from, entries, entry_bytes, index_header, index_bytes, block_header, block_bytes, table_alignment, table_negative, entry_status, entry_pointer, decode}
use Rattle.format.specs.Opening.{lacks, is_type, is_user_data, header_verdict, index_verdict, entry_verdict, entries_verdict, offsets_with, is_table, one_of, one_verdict, table_at, kind_by, kind_at, extent_verdict, table_malformed, sums_differ, payload_verdict, table_verdict, open_verdict, opened_as, opened, opening, sector_count, range_of}
use Rattle.format.specs.Reading.{displaced, outside, entry_number, table_entry, unwritten, not_written, unknown, unknown_status, pointer_at, has, block_malformed, block_verdict, item_verdict, pointer_verdict, sector_verdict, place_of, item_bytes, address_verdict, read_verdict, pointer_of, read_at, read, locate}
use Rattle.format.specs.Writing.{buffer_verdict, is_second, writable_verdict, outcome}
use Rattle.format.specs.Committing.{rising_by, arguments_verdict, disc_verdict, append, commit_verdict, commit}
use Rattle.format.specs.RollingBack.{rollback_verdict, rollback}
use Rattle.worked_disc.specs.WorkedDisc.{refused_with, gives, lies_at}
use Rattle.worked_disc.specs.SecondDisc.{is_minus, ranges, second_header, second_image, opened_with, second_disc}

pub second-disc : T (all_hold second_disc)
unfolding all_hold refused_with gives lies_at buffer_verdict is_minus ranges second_header second_image opened_with second_disc crc_of part from_le to_le field overwrite equal layout same differs below at_least ◌or◌ ◌and◌ choose flatten row ◌then◌ answer tag lacks index_offset header_bytes entry_count entry_at entries_from entries is_type is_user_data entry_bytes index_header index_bytes block_header block_bytes decode header_verdict index_verdict entry_verdict entries_verdict one_of one_verdict table_at table_malformed sums_differ table_verdict open_verdict opened opening table_entry not_written pointer_at has block_malformed block_verdict item_verdict pointer_verdict sector_verdict place_of item_bytes read_verdict read_at read locate outcome arguments_verdict disc_verdict append commit_verdict commit rollback_verdict rollback less_than table_alignment table_negative entry_status entry_pointer offsets_with is_table kind_by kind_at extent_verdict payload_verdict opened_as displaced outside entry_number unwritten unknown unknown_status address_verdict pointer_of is_second writable_verdict rising_by sector_count range_of
second-disc = tt
