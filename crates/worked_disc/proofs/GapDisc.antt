-- The discs with gaps: every test of the table holds, by computing it.
use mathlib.Core.List.{flatten}
use lib.Dec.{T}
use Rattle.crc64.specs.Crc.{crc_of}
use Rattle.fields.specs.Bytes.{part, from_le, to_le, field, overwrite, equal}
use Rattle.fields.specs.Layout.{layout}
use Rattle.format.specs.Tests.{same, differs, below, at_least, ◌or◌, ◌and◌, choose, all_hold}
use Rattle.format.specs.Lists.{of_each, how_many}
use Rattle.format.specs.Refusals.{row, ◌then◌, first_refusal, answer}
use Rattle.format.specs.Layouts.{tag, index_offset, header_bytes, entry_count, entry_at, entries_from, entries, entry_bytes, index_header, index_bytes, block_header, block_bytes, table_header, table_bytes, table_alignment, table_negative, entry_status, entry_pointer, decode}
use Rattle.format.specs.Opening.{lacks, is_type, is_user_data, header_verdict, index_verdict, entry_verdict, entries_verdict, offsets_with, is_table, one_of, one_verdict, table_at, kind_by, kind_at, extent_verdict, table_malformed, sums_differ, payload_verdict, table_verdict, open_verdict, opened_as, opened}
use Rattle.format.specs.Reading.{table_entry, unwritten, not_written, unknown, unknown_status, pointer_at, has, block_malformed, block_verdict, item_verdict, pointer_verdict, sector_verdict, place_of, item_bytes}
use Rattle.format.specs.Writing.{outcome}
use Rattle.format.specs.Committing.{other_than_21, sectors_verdict}
use Rattle.format.specs.Exporting.{size_at, size_from, flat_size, piece_at, flat_file, gap_count, size_verdict, file_verdict, exact_verdict, export_verdict, export_exact, export}
use Rattle.worked_disc.specs.WorkedDisc.{refused_with}
use Rattle.worked_disc.specs.SecondDisc.{second_header, second_image}
use Rattle.worked_disc.specs.FlatDisc.{exports}
use Rattle.worked_disc.specs.GapDisc.{fills, exports_as, gap_image, second_three, gap_disc}

pub gap-disc : T (all_hold gap_disc)
unfolding all_hold refused_with exports fills exports_as gap_image second_three gap_disc second_header second_image of_each how_many size_at size_from flat_size piece_at flat_file gap_count size_verdict file_verdict exact_verdict export_verdict export_exact export crc_of part from_le to_le field overwrite equal layout same differs below at_least ◌or◌ ◌and◌ choose flatten row ◌then◌ first_refusal answer tag lacks index_offset header_bytes entry_count entry_at entries_from entries is_type is_user_data entry_bytes index_header index_bytes block_header block_bytes table_header table_bytes decode header_verdict index_verdict entry_verdict entries_verdict one_of one_verdict table_at table_malformed sums_differ table_verdict open_verdict opened table_entry not_written pointer_at has block_malformed block_verdict item_verdict pointer_verdict sector_verdict place_of item_bytes outcome other_than_21 sectors_verdict table_alignment table_negative entry_status entry_pointer offsets_with is_table kind_by kind_at extent_verdict payload_verdict opened_as unwritten unknown unknown_status
gap-disc = tt
