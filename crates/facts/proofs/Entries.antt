-- Entries of what a version needs, as they are read.
use Rattle.std.proofs.Common.{◌≡◌, ◌<◌, ◌∙◌, ℕ, sym, ap, subst, length, get_or}
use Rattle.std.proofs.lemmas.Option.{get_or_from_slice_get}
use Rattle.std.specs.Prelude.{Option, Some, Contains, slice_get}
use Rattle.versions.specs.Words.{Text}
use Rattle.registry.specs.Registry.{Packages, Publication, needs_of, needs_or_none, publication_at}

-- an entry of what a version needs
pub entry_used : (packages : Packages) (p k : ℕ) (publication : Publication) (i : ℕ) (x : Text × Text) → publication_at packages p k ≡ Some publication → i < length publication.needs → x ≡ get_or publication.needs i x
    → Contains (needs_of packages p k) x
entry_used packages p k publication i x at lt read = subst (λ (o : Option Publication). Contains (needs_or_none o) x) (sym at) (i, lt, sym read)

-- the entry that is read at an index is what the version needs there
pub entry_there : (packages : Packages) (p k : ℕ) (publication : Publication) (i : ℕ) (x d : Text × Text) → publication_at packages p k ≡ Some publication → slice_get (needs_of packages p k) i ≡ Some d
    → get_or publication.needs i x ≡ d
entry_there packages p k publication i x d at needed =
    get_or_from_slice_get publication.needs i d x (sym (ap (λ (o : Option Publication). slice_get (needs_or_none o) i) at) ∙ needed)

-- an index of what is read from the publication is one of what the version needs
pub index_within : (packages : Packages) (p k : ℕ) (publication : Publication) (i : ℕ) → publication_at packages p k ≡ Some publication → i < length publication.needs → i < length (needs_of packages p k)
index_within packages p k publication i at lt = subst (λ (o : Option Publication). i < length (needs_or_none o)) (sym at) lt

-- and the other way round
pub index_read : (packages : Packages) (p k : ℕ) (publication : Publication) (i : ℕ) → publication_at packages p k ≡ Some publication → i < length (needs_of packages p k) → i < length publication.needs
index_read packages p k publication i at lt = subst (λ (o : Option Publication). i < length (needs_or_none o)) at lt

-- an entry of the publication that is compared with another one
pub entry_found : (packages : Packages) (p k : ℕ) (publication : Publication) (i : ℕ) (x d : Text × Text) → publication_at packages p k ≡ Some publication → i < length publication.needs → x ≡ get_or publication.needs i x
    → x.0 ≡ d.0 → x.1 ≡ d.1 → Contains (needs_of packages p k) d
entry_found packages p k publication i x d at lt read name need =
    let here : Contains (needs_of packages p k) (x.0, x.1) = entry_used packages p k publication i x at lt read in
    subst (λ b. Contains (needs_of packages p k) (d.0, b)) need (subst (λ a. Contains (needs_of packages p k) (a, x.1)) name here)
