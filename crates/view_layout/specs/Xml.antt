-- Bytes as character data of XML (Extensible Markup Language 1.0, "Character Data and Markup").
use Rattle.std.specs.Prelude.{ℕ, ◌==◌, List, [], ◌∷◌, codes, if◌then◌else◌}
use Rattle.std.specs.List.{flat_map}

-- The five characters with a meaning in XML become references. Any other character is unchanged.
abbrev pub xml_byte : ℕ → List ℕ
xml_byte b =
    if b == 38 then codes "&amp;"
    else (if b == 60 then codes "&lt;"
    else (if b == 62 then codes "&gt;"
    else (if b == 34 then codes "&quot;"
    else (if b == 39 then codes "&#39;"
    else b ∷ []))))

abbrev pub xml_text : List ℕ → List ℕ
xml_text bytes = flat_map xml_byte bytes
