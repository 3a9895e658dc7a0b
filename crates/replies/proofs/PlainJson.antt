-- Derivations and texts as JSON have no floats.
use Rattle.std.proofs.Common.{◌≡◌, ℕ, List, [], ◌∷◌, map, false, refl}
use Rattle.std.specs.Prelude.{Option, Some, None}
use Rattle.serde_json.specs.Data.{Data, string}
use Rattle.serde_json.specs.View.{items_of}
use Rattle.serde_json.specs.Written.{has_float, items_have_float}
use Rattle.serde_json.proofs.OnLiterals.{serde_json_on_literals}
use Rattle.versions.specs.Words.{Text}
use Rattle.terms.specs.declared.term.Term.{Term}
use Rattle.terms.specs.declared.term.Term.TheVariants.{In, NotIn}
use Rattle.replies.specs.NamedJson.{cause_json, derivation_json, line_json, name_json, number_json, ordinals_json, premise_json, term_json, terms_json}
use Rattle.replies.specs.Replies.{texts_json}
use Rattle.by_name.specs.NamedLines.{NamedCause, NamedLine, NamedPremise}
use Rattle.derivations.specs.declared.facts.Cause.TheVariants as cause

-- values none of which has one
items_plain : {A : Type 0} (json : A → Data) → ((x : A) → has_float (json x) ≡ false) → (xs : List A) → items_have_float (items_of (map json xs)) ≡ false
items_plain json plain [] = refl
items_plain json plain (x ∷ xs) = rw (plain x, items_plain json plain xs) refl

name_plain : (name : Option Text) → has_float (name_json name) ≡ false
name_plain None = refl
name_plain (Some name) = refl

ordinals_plain : (set : List ℕ) → has_float (ordinals_json set) ≡ false
ordinals_plain set = items_plain number_json (λ n. refl) set

term_plain : (name : Option Text) (term : Term) → has_float (term_json name term) ≡ false
term_plain name (In set) = rw (name_plain name, ordinals_plain set) refl
term_plain name (NotIn set) = rw (name_plain name, ordinals_plain set) refl

terms_plain : (terms : List (Option Text × Term)) → has_float (terms_json terms) ≡ false
terms_plain terms = items_plain (λ (t : Option Text × Term). term_json t.0 t.1) (λ t. term_plain t.0 t.1) terms

premise_plain : (premise : NamedPremise) → has_float (premise_json premise) ≡ false
unfolding serde_json_on_literals
premise_plain premise = rw (name_plain premise.target, ordinals_plain premise.versions, ordinals_plain premise.within) refl

cause_plain : (c : NamedCause) → has_float (cause_json c) ≡ false
unfolding serde_json_on_literals
cause_plain (cause.Line n) = refl
cause_plain (cause.Premise premise) = premise_plain premise
cause_plain (cause.Need i) = refl
cause_plain (cause.NotAllowed name versions) = rw (ordinals_plain versions) refl
cause_plain cause.Root = refl

line_plain : (line : NamedLine) → has_float (line_json line) ≡ false
unfolding serde_json_on_literals
line_plain line = rw (cause_plain line.causes.0, cause_plain line.causes.1, terms_plain line.conclusion, name_plain line.pivot) refl

pub derivation_plain : (lines : List NamedLine) → has_float (derivation_json lines) ≡ false
unfolding derivation_json
derivation_plain lines = items_plain line_json line_plain lines

pub texts_plain : (texts : List Text) → has_float (texts_json texts) ≡ false
texts_plain texts = items_plain string (λ t. refl) texts
