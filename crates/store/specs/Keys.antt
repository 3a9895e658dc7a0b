-- A number that equal conclusions share, so that few need to be compared.
use Rattle.std.specs.Prelude.{ℕ, ◌+◌, ◌*◌, ◌%◌, ◌^◌, List, [], ◌∷◌}
use Rattle.terms.specs.declared.term.Term.{Term}
use Rattle.terms.specs.declared.term.Term.TheVariants.{In, NotIn}
use Rattle.derivations.specs.Facts.{Terms}

-- a number stirred into a key
unfoldable pub stirred : ℕ → ℕ → ℕ
stirred key n = ((key * 1099511628211) % 2 ^ 64 + n) % 2 ^ 64

abbrev pub stirred_all : ℕ → List ℕ → ℕ
stirred_all key [] = key
stirred_all key (n ∷ rest) = stirred_all (stirred key n) rest

abbrev pub stirred_term : ℕ → Term → ℕ
stirred_term key (In set) = stirred_all (stirred key 1) set
stirred_term key (NotIn set) = stirred_all (stirred key 2) set

abbrev pub stirred_terms : ℕ → Terms → ℕ
stirred_terms key [] = key
stirred_terms key (t ∷ rest) = stirred_terms (stirred_term (stirred key t.0) t.1) rest

-- the key of a conclusion
abbrev pub key_of : Terms → ℕ
key_of terms = stirred_terms 0 terms
