-- Every test of the table holds, by computing it.
use mathlib.Core.List.{flatten}
use lib.Dec.{T}
use Rattle.crc64.specs.Crc.{crc_of}
use Rattle.fields.specs.Bytes.{part, field, from_le, to_le, equal}
use Rattle.fields.specs.Layout.{layout}
use Rattle.format.specs.Tests.{same, differs, below, less_than, ◌or◌, ◌and◌, all_hold}
use Rattle.format.specs.Refusals.{row, ◌then◌}
use Rattle.format.specs.Layouts.{tag, header_bytes, entry_bytes, index_header, index_bytes, block_header, block_bytes, table_header, table_bytes, entry_status, entry_pointer, decode}
use Rattle.format.specs.Opening.{lacks, is_type, is_user_data, is_table}
use Rattle.format.specs.Reading.{unwritten, unknown}
use Rattle.format.specs.Writing.{buffer_verdict}
use Rattle.format.specs.Creating.{created_index_at, created_used, create_verdict}
use Rattle.format.specs.Committing.{rising_by, arguments_verdict}
use Rattle.format.specs.Importing.{import_verdict}
use Rattle.format.specs.Examples.{gives, examples}

pub examples-hold : T (all_hold examples)
unfolding all_hold examples gives equal same differs ◌or◌ ◌and◌ part field from_le to_le layout tag header_bytes entry_bytes index_header index_bytes block_header block_bytes table_header table_bytes crc_of lacks is_type is_user_data is_table unwritten unknown entry_status entry_pointer decode row ◌then◌ below less_than create_verdict created_index_at created_used buffer_verdict rising_by arguments_verdict import_verdict flatten
examples-hold = tt
