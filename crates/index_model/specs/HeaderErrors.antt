-- The cause of an error of reading a header (gitformat-index, "A 12-byte header").
use Rattle.entry_list.specs.Header.{HeaderFault, Corrupt, UnsupportedVersion}
use Rattle.index_model.specs.declared.error.Header.{Header as HeaderError}
use Rattle.index_model.specs.declared.error.Header.TheVariants as headers

-- the error of the format that a header's error represents
abbrev pub header_fault : HeaderError → HeaderFault
header_fault (headers.Corrupt text) = Corrupt text.now
header_fault (headers.UnsupportedVersion n) = UnsupportedVersion n
