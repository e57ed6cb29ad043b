-- The checks by their names in code, and their numbers, by which the definitions know them.
use Rattle.std.specs.Prelude.{ℕ}
use Rattle.format.specs.declared.Check.{Check}
use Rattle.format.specs.declared.Check.TheVariants.{HeaderCutOff, UnknownIdentifier, UnknownVersion, IndexOutside, NotAnIndex, IndexChecksum, EntryOutside, EntryMismatch, NoTable, SeveralTables, TableOutside, TableMalformed, TableCompressed, TableChecksum, AddressOutside, NotWritten, BlockNotIndexed, BlockOutside, BlockCompressed, BlockMalformed, ItemOutside, BlockChecksum, SizeRefused, BufferTooLong, UsedPastBuffer, LengthMismatch, AddressesNotRising, NoRoom, SizesDiffer, FileBufferTooShort, PartialSector, SeveralLevels, UnknownSizeType, AddressesExceedBlocks, UnknownStatus, SecondKind}

abbrev pub number_of : Check → ℕ
number_of HeaderCutOff = 1
number_of UnknownIdentifier = 2
number_of UnknownVersion = 3
number_of IndexOutside = 4
number_of NotAnIndex = 5
number_of IndexChecksum = 6
number_of EntryOutside = 7
number_of EntryMismatch = 8
number_of NoTable = 9
number_of SeveralTables = 10
number_of TableOutside = 11
number_of TableMalformed = 12
number_of TableCompressed = 13
number_of TableChecksum = 14
number_of AddressOutside = 20
number_of NotWritten = 21
number_of BlockNotIndexed = 22
number_of BlockOutside = 23
number_of BlockCompressed = 24
number_of BlockMalformed = 25
number_of ItemOutside = 26
number_of BlockChecksum = 27
number_of SizeRefused = 30
number_of BufferTooLong = 31
number_of UsedPastBuffer = 32
number_of LengthMismatch = 33
number_of AddressesNotRising = 34
number_of NoRoom = 35
number_of SizesDiffer = 40
number_of FileBufferTooShort = 41
number_of PartialSector = 42
number_of SeveralLevels = 70
number_of UnknownSizeType = 71
number_of AddressesExceedBlocks = 72
number_of UnknownStatus = 73
number_of SecondKind = 74
