-- Worked sessions, computed from the definitions. What a line asks is the premise of each: crate `wire` says that of texts.
use Rattle.std.proofs.Common.{◌≡◌, ◌∙◌, ℕ, List, [], ◌∷◌, codes, refl, sym, ap, subst, inl, inr, false, arith}
use Rattle.std.proofs.lemmas.List.Sorted.{IsPermutation-refl}
use Rattle.std.specs.Prelude.{Option, None, Result, Ok, Err}
use Rattle.versions.specs.OnLiterals.{semver_on_literals}
use Rattle.versions.specs.Words.{parts_of_text, precedence, same_precedence}
use Rattle.versions.specs.declared.refusal.Refusal.{Refusal}
use Rattle.versions.specs.declared.refusal.Refusal.TheVariants.{AlreadyPublished, BadLine, NoMemory}
use Rattle.registry.specs.Step as registry
use Rattle.registry.specs.Step.{Change, Publish}
use Rattle.registry.specs.declared.commands.Command.TheVariants as commands
use Rattle.book.specs.Items.{after as after_item, empty, refusal, stepped}
use Rattle.book.specs.declared.item.Item.TheVariants as item
use Rattle.derivations.specs.Laws.{DerivationsRefute}
use Rattle.wire.specs.Requests.{request_of}
use Rattle.wire.specs.Shapes.{Request, command, listing, resolve}
use Rattle.replies.specs.Listings.{IsListing, Row}
use Rattle.replies.specs.Replies.{Body, Reply, accepted, listed, no_selection, refused, selected}
use Rattle.session.specs.Step.{AreReplies, IsReply, IsTold, State, accepted_by, after_all, nowhere, refusal_at, state_of, told_of}
use Rattle.session.proofs.SessionRows.{a_alone, a_selected, at_a, needs_a, needs_zed, refused-zed, selected-a}

abbrev a_published : Change
a_published = Publish (codes "a") (codes "1.0.0") []

-- ---- replies

-- of the same request at the same place the reply is the same
one_reply : (budget : Option ℕ) (state next : State) (line : List ℕ) (said : Result Request Refusal) (body : Body) (lines : List (List ℕ)) (replies : List Reply) → request_of line ≡ said
    → IsTold budget state said body → after_all state (accepted_by said body) ≡ next → AreReplies budget next lines replies
    → AreReplies budget state (line ∷ lines) (record { revision = next.revision; stamp = None; body = body } ∷ replies)
one_reply budget state next line said body lines replies asks told moves rest =
    let there : after_all state (accepted_by (request_of line) body) ≡ next = ap (λ (r : Result Request Refusal). after_all state (accepted_by r body)) asks ∙ moves in (
      record {
        told = inr (subst (λ (r : Result Request Refusal). IsTold budget state r body) (sym asks) told);
        revision = ap (λ (s : State). s.revision) (sym there);
        stamp = refl;
      },
      subst (λ (s : State). AreReplies budget s lines replies) (sym there) rest,
    )

-- the first publication is accepted
accepted-a : accepted ≡ told_of (refusal_at nowhere a_published)
unfolding registry.refusal_of
accepted-a = refl

after-a : after_all nowhere (a_published ∷ []) ≡ at_a
unfolding registry.after a_alone
after-a = refl

-- and not again
again-a : refused AlreadyPublished ≡ told_of (refusal_at at_a a_published)
unfolding semver_on_literals registry.refusal_of a_alone same_precedence precedence parts_of_text
again-a = refl

abbrev a_rows : List Row
a_rows = (codes "a", (codes "1.0.0", false) ∷ []) ∷ []

a-listed : IsListing a_alone a_rows
unfolding a_alone
a-listed = record { whole = IsPermutation-refl a_rows; ascending = λ k d low high. absurd (omega (arith, high)) }

abbrev reply_at : ℕ → Body → Reply
reply_at revision body = record { revision = revision; stamp = None; body = body }

module _ (publish wrong wanted zed all : List ℕ) (asks_publish : request_of publish ≡ Ok (command a_published)) (asks_wrong : request_of wrong ≡ Err BadLine)
    (asks_wanted : request_of wanted ≡ Ok (resolve needs_a false None)) (asks_zed : request_of zed ≡ Ok (resolve needs_zed false None)) (asks_all : request_of all ≡ Ok listing) where
  -- published, refused when it is published again, a wrong line, selected, listed
  session-a : (budget : Option ℕ) → AreReplies budget nowhere (publish ∷ publish ∷ wrong ∷ wanted ∷ all ∷ [])
      (reply_at 1 accepted ∷ reply_at 1 (refused AlreadyPublished) ∷ reply_at 1 (refused BadLine) ∷ reply_at 1 (selected a_selected) ∷ reply_at 1 (listed a_rows) ∷ [])
  session-a budget =
      let five = one_reply budget at_a at_a all (Ok listing) (listed a_rows) [] [] asks_all (a_rows, a-listed, refl) refl tt in
      let four = one_reply budget at_a at_a wanted (Ok (resolve needs_a false None)) (selected a_selected) (all ∷ []) (reply_at 1 (listed a_rows) ∷ []) asks_wanted (selected-a false budget None) refl five in
      let three = one_reply budget at_a at_a wrong (Err BadLine) (refused BadLine) (wanted ∷ all ∷ []) (reply_at 1 (selected a_selected) ∷ reply_at 1 (listed a_rows) ∷ []) asks_wrong refl refl four in
      let two = one_reply budget at_a at_a publish (Ok (command a_published)) (refused AlreadyPublished) (wrong ∷ wanted ∷ all ∷ [])
      (reply_at 1 (refused BadLine) ∷ reply_at 1 (selected a_selected) ∷ reply_at 1 (listed a_rows) ∷ []) asks_publish again-a refl three in
      one_reply budget nowhere at_a publish (Ok (command a_published)) accepted (publish ∷ wrong ∷ wanted ∷ all ∷ [])
      (reply_at 1 (refused AlreadyPublished) ∷ reply_at 1 (refused BadLine) ∷ reply_at 1 (selected a_selected) ∷ reply_at 1 (listed a_rows) ∷ []) asks_publish accepted-a after-a two

  -- no selection meets the request
  session-zed : DerivationsRefute → (budget : Option ℕ) → AreReplies budget nowhere (zed ∷ []) (reply_at 0 no_selection ∷ [])
  session-zed refute budget = one_reply budget nowhere nowhere zed (Ok (resolve needs_zed false None)) no_selection [] [] asks_zed (refused-zed refute budget None) refl tt

  -- a publication that is there is not accepted again
  not-again : (budget : Option ℕ) → IsReply budget at_a publish (reply_at 2 accepted) → ⊥
  not-again budget r = elim r.told [
    | inl none ↦ let no_memory : accepted ≡ refused NoMemory = none in cc
    | inr told ↦
        let there : IsTold budget at_a (Ok (command a_published)) accepted = subst (λ (x : Result Request Refusal). IsTold budget at_a x accepted) asks_publish told in
        let both : accepted ≡ refused AlreadyPublished = there ∙ sym again-a in
        cc
  ]

  -- an accepted command is not told the revision before it
  not-before : (budget : Option ℕ) → IsReply budget nowhere publish (reply_at 0 accepted) → ⊥
  not-before budget r =
      let there : after_all nowhere (accepted_by (request_of publish) accepted) ≡ at_a
      = ap (λ (x : Result Request Refusal). after_all nowhere (accepted_by x accepted)) asks_publish ∙ after-a in
      let both : 0 ≡ 1 = r.revision ∙ ap (λ (s : State). s.revision) there in
      absurd (omega (arith, both))

-- ---- where a journal leaves a session

state-a : state_of (item.Command (commands.Publish (codes "a") (codes "1.0.0") []) ∷ []) ≡ at_a
unfolding semver_on_literals a_alone refusal empty stepped after_item registry.refusal_of registry.after same_precedence precedence parts_of_text
state-a = refl
