-- What a store's result implies.
use Rattle.std.proofs.Common.{◌≡◌, ℕ, List, Option, Some, None, Ok, Err, subst}
use Rattle.index_parts.specs.Object.{Found, IsFindResult, absent, object, fault}
use Rattle.index_parts.specs.declared.object.Kind.{Kind}
use Rattle.index_parts.specs.declared.object.find.Error.{Error}
use Rattle.index_parts.specs.declared.object.find.Error.TheVariants as errors

module _ (found : Found) (bytes : List ℕ) where
  pub found_none : (answer : Option Kind) → answer ≡ None → IsFindResult found (Ok answer) bytes → found ≡ absent
  found_none answer is h = subst (λ (x : Option Kind). IsFindResult found (Ok x) bytes) is h

  pub found_some : (answer : Option Kind) (kind : Kind) → answer ≡ Some kind → IsFindResult found (Ok answer) bytes
      → found ≡ object kind bytes
  found_some answer kind is h = subst (λ (x : Option Kind). IsFindResult found (Ok x) bytes) is h

  pub found_fault : (error : Error) (number : ℕ) → error ≡ errors.Fault number → IsFindResult found (Err error) bytes
      → found ≡ fault number
  found_fault error number is h = subst (λ (x : Error). IsFindResult found (Err x) bytes) is h
