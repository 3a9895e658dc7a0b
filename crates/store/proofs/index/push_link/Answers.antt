use Rattle.std.proofs.Common.{◌≡◌, ◌∙◌, ◌+◌, ◌<◌, ◌≤◌, ◌++◌, inl, inr, ℕ, List, [], ◌∷◌, ap, arith, get_or, length, length-append, refl, subst, sym}
use Rattle.std.proofs.Math.ListN.{set}
use Rattle.std.proofs.lemmas.Bool.{cases_eq}
use Rattle.std.proofs.lemmas.Option.{same_Some, slice_get-get_or, slice_get_within}
use Rattle.std.specs.Prelude.{Some, slice_get}
use Rattle.store.specs.Indexes.{AreChained, IsNewest, chain_of}
use Rattle.store.specs.declared.index.Link.{Link}
use Rattle.store.proofs.Chained.{read_more, get-left}
use Rattle.store.proofs.Written.{get_elsewhere, get_written}
use Rattle.store.proofs.index.push_link.Goals as goal

-- a link behind the first ones changes nothing for them
newest_before : (links : List Link) (own : Link) (first chain at : ℕ) → first ≤ length links → IsNewest links first chain at → IsNewest (links ++ own ∷ []) first chain at
newest_before links own first chain at few newest = record {
  within = newest.within;
  own = λ n link e is. elim (read_more links own n link e) [
    | inl before ↦ newest.own n link before is
    | inr last ↦ (let within = newest.within in let place = last.0 in absurd (omega (arith, few, within, is, place)))
  ];
  newest = λ n link e same lt. elim (read_more links own n link e) [
    | inl before ↦ newest.newest n link before same lt
    | inr last ↦ (let place = last.0 in absurd (omega (arith, few, lt, place)))
  ];
}

-- in its own chain the link behind them is the newest
newest_own : (links : List Link) (own : Link) (chain at : ℕ) → chain_of own.number ≡ chain → at ≡ length links + 1 → IsNewest (links ++ own ∷ []) (length (links ++ own ∷ [])) chain at
newest_own links own chain at same is =
    let count = length-append links (own ∷ []) in
    record {
      within = omega (arith, count, is);
      own = λ n link e here. elim (read_more links own n link e) [
        | inl before ↦ (let within = slice_get_within links n link before in absurd (omega (arith, within, here, is)))
        | inr last ↦ subst (λ (l : Link). chain_of l.number ≡ chain) last.1 same
      ];
      newest = λ n link e chained lt. omega (arith, count, is, lt);
    }

-- in another chain it changes nothing
newest_other : (links : List Link) (own : Link) (chain at : ℕ) → (chain_of own.number ≡ chain → ⊥) → IsNewest links (length links) chain at → IsNewest (links ++ own ∷ []) (length (links ++ own ∷ [])) chain at
newest_other links own chain at apart newest =
    let count = length-append links (own ∷ []) in
    let within = newest.within in
    record {
      within = omega (arith, count, within);
      own = λ n link e is. elim (read_more links own n link e) [
        | inl before ↦ newest.own n link before is
        | inr last ↦ (let place = last.0 in absurd (omega (arith, within, is, place)))
      ];
      newest = λ n link e chained lt. elim (read_more links own n link e) [
        | inl before ↦ newest.newest n link before chained (slice_get_within links n link before)
        | inr last ↦ absurd (apart (subst (λ (l : Link). chain_of l.number ≡ chain) (sym last.1) chained))
      ];
    }

AreChained-push : (heads : List ℕ) (links : List Link) (own : Link) (chain at : ℕ) → AreChained heads links → chain_of own.number ≡ chain → chain < length heads → own.before ≡ get_or heads chain 0
    → at ≡ length links + 1 → AreChained (set heads chain at) (links ++ own ∷ [])
AreChained-push heads links own chain at chained same lt before is = record {
  first = λ c head e. elim (cases_eq c chain) [
    | inl here ↦
        let read : slice_get (set heads chain at) chain ≡ Some head = subst (λ k. slice_get (set heads chain at) k ≡ Some head) here e in
        let head_is : at ≡ head = same_Some at head (sym (get_written heads chain at lt) ∙ read) in
        subst (λ k. IsNewest (links ++ own ∷ []) (length (links ++ own ∷ [])) k head) (sym here)
        (newest_own links own chain head same (sym head_is ∙ is))
    | inr apart ↦ newest_other links own c head (λ own_is. apart (sym own_is ∙ same)) (chained.first c head (sym (get_elsewhere heads chain c at apart) ∙ e))
  ];
  before = λ n link e. elim (read_more links own n link e) [
    | inl old ↦ (let within = slice_get_within links n link old in newest_before links own n (chain_of link.number) link.before (omega (arith, within)) (chained.before n link old))
    | inr last ↦
        let head : IsNewest links (length links) chain (get_or heads chain 0) = chained.first chain (get_or heads chain 0) (slice_get-get_or heads chain 0 lt) in
        let mine : IsNewest links (length links) (chain_of own.number) own.before =
        subst (λ k. IsNewest links (length links) k own.before) (sym same) (subst (λ k. IsNewest links (length links) chain k) (sym before) head) in
        subst (λ (l : Link). IsNewest (links ++ own ∷ []) n (chain_of l.number) l.before) last.1
        (subst (λ k. IsNewest (links ++ own ∷ []) k (chain_of own.number) own.before) (sym last.0) (newest_before links own (length links) (chain_of own.number) own.before (omega arith) mine))
  ];
}

pub returns-clause-kept : goal.returns-clause-kept
returns-clause-kept c = λ n link at. subst (λ (links : List Link). slice_get links n ≡ Some link) (sym c.in-Ok.ensures.items) (get-left c.args.links.now.items _ n link at)

pub returns-clause-chained : goal.returns-clause-chained
returns-clause-chained c = λ done.
    let links = c.args.links.now.items in
    subst (λ (all : List Link). AreChained (set c.args.heads.now c.chain_of-chain.result c.len-2.result) all) (sym c.in-Ok.ensures.items)
    (AreChained-push c.args.heads.now links _ c.chain_of-chain.result c.len-2.result c.requires.chained (sym c.chain_of-chain.ensures.same)
    (omega (arith, c.requires.few, c.chain_of-chain.ensures.few)) refl (omega (arith, c.len-2.ensures, c.push.new.self.ok.0, ap length c.in-Ok.ensures.items, length-append {A = Link})))
