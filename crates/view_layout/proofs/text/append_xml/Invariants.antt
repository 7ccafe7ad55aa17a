use Rattle.std.proofs.Common.{◌≡◌, ◌++◌, take}
use Rattle.view_layout.specs.Xml.{xml_text}
use Rattle.view_layout.proofs.text.append_xml.Given as goal

abbrev pub invariant-loop-byte : goal.invariant-loop-byte
invariant-loop-byte l = l.lines.items ≡ l.fn.lines.items ++ xml_text (take l.byte-index l.bytes)
