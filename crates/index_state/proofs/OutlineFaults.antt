-- What an error implies for another relation.
use Rattle.std.proofs.Common.{Err}
use Rattle.index_model.specs.declared.error.Error.{Error as Decoding}
use Rattle.index_model.specs.declared.error.Error.TheVariants as decoding
use Rattle.index_model.specs.declared.error.Extension.TheVariants as extensions
use Rattle.ext_split.specs.declared.link.decode.Error.TheVariants as links
use Rattle.index_model.specs.Answer.{Answer, Fault}
use Rattle.index_model.specs.DecodeErrors.{IsEarly, DecodeCause}

-- what an error implies for answers, if a relation's errors are another's
pub says_weaker : (e : Decoding) (P Q : Answer → Type 0) → ((f : Fault) → P (Err f) → Q (Err f))
    → ((f : Fault) → IsEarly f → Q (Err f) → ⊥) → DecodeCause e P → DecodeCause e Q
says_weaker (decoding.Header e) P Q to never h = to _ h
says_weaker decoding.Hasher P Q to never h = h
says_weaker decoding.OutOfMemory P Q to never h = to _ h
says_weaker (decoding.Entry i) P Q to never h = to _ h
says_weaker (decoding.Extension (extensions.MandatoryUnimplemented signature)) P Q to never h = to _ h
says_weaker (decoding.Extension (extensions.Link (links.Corrupt text))) P Q to never h = to _ h
says_weaker (decoding.Extension (extensions.Link (links.BitmapDecode e name))) P Q to never h = to _ h
says_weaker (decoding.Extension (extensions.Link links.Memory)) P Q to never h = h
says_weaker (decoding.UnexpectedTrailerLength n m) P Q to never h = to _ h
says_weaker (decoding.Verify p q) P Q to never h = to _ h
says_weaker decoding.Memory P Q to never h = never
