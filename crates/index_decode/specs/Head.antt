-- The content of a file's header, and what it implies for all bytes of the file (gitformat-index, "A 12-byte header").
use Rattle.std.specs.Prelude.{◌≡◌, ◌↔◌, ℕ, nat_lt, List, drop, length, false, Option, Result, Ok, IfErr, IfOk}
use Rattle.index_parts.specs.declared.hash.Kind.{Kind}
use Rattle.entry_fields.specs.declared.entry.stat.FileTime.{FileTime}
use Rattle.index_extensions.specs.EndMarker.{IsMarker}
use Rattle.entry_list.specs.Header.{count_of, header_len, header_of}
use Rattle.entry_list.specs.Limits.{is_too_large, most_entries}
use Rattle.index_model.specs.Answer.{Answer, IsAnswer, IsBehindHeader}
use Rattle.index_model.specs.DecodeErrors.{DecodeCause}
use Rattle.index_model.specs.declared.decode.Options.{Options}
use Rattle.index_model.specs.declared.error.Error.{Error}
use Rattle.index_decode.specs.declared.decode.Declared.{Declared}

-- The header at the start of a file of `len` bytes, whose end marker has this offset or which has none. It has a
-- version, and a count of entries that such a file can have and the limit allows.
pub record IsDeclared (kind : Kind) (options : Options) (head : List ℕ) (len : ℕ) (offset : Option ℕ)
    (declared : Declared) : Type 0 where
  pub header : header_of kind head ≡ Ok declared.version
  pub count : declared.count ≡ count_of head
  pub rest : declared.rest.now ≡ drop header_len head
  pub fits : nat_lt (most_entries len offset kind declared.version) declared.count ≡ false
  pub small : is_too_large options.alloc_limit_bytes declared.count len offset kind declared.version ≡ false

-- The result of reading the header from all bytes of a file, whatever the file's time. It is the content of the header,
-- and the answer to all bytes is the answer by the bytes after the header. Or it is an error, which is the answer.
pub record LooksAt (kind : Kind) (options : Options) (bytes : List ℕ) (result : Result Declared Error) : Type 0 where
  pub declared : IfOk result (λ d. (offset : Option ℕ) × IsMarker kind bytes offset
      × IsDeclared kind options bytes (length bytes) offset d)
  pub behind : IfOk result (λ d. (time : FileTime) (answer : Answer)
      → IsBehindHeader kind time options d.version d.count d.rest.now answer ↔ IsAnswer kind time options bytes answer)
  pub fault : IfErr result (λ e. (time : FileTime) → DecodeCause e (IsAnswer kind time options bytes))
