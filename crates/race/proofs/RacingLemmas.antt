-- What the calls of a race's seat leave.
use Rattle.std.proofs.Common.{◌≡◌, ◌⊎◌, ℕ, List, [], ◌∷◌, ◌++◌, ◌∙◌, ap, sym, subst, refl, append_assoc, append-nil, inl, inr, Option, None, Some, Result, Ok, Err, MatchResult}
use Rattle.versions.specs.declared.refusal.Refusal.{Refusal}
use Rattle.derivations.specs.Lines.{Line}
use Rattle.chronicle.specs.declared.entry.Entry.{Entry}
use Rattle.chronicle.specs.Calls.{Ask, MayRefuse, Meet, Told}
use Rattle.chronicle.specs.Journals.{Begins, Sees, looked}
use Rattle.chronicle.specs.Seats.{HasCalled, IsStopped, MayHaveSeen, Refused, SeatState}
use Rattle.replies.specs.Replies as replies
use Rattle.wire.specs.Shapes.{Request, check, command, listing, resolve}
use Rattle.answers.specs.Lawful.{IsLawfulWithin, IsRefused, Learns, MayAnswer, asked_within}
use Rattle.answers.specs.declared.settings.Settings.{Settings}
use Rattle.race.specs.Racing.{seat_ways}

-- ---- one call

looked_begins : (seen : List Entry) (o : Option Entry) → Begins seen (looked seen o)
looked_begins seen None = record { rest = []; is = append-nil seen }
looked_begins seen (Some e) = record { rest = e ∷ []; is = refl }

-- no call loses what was seen
pub call_begins : {p q : SeatState} {ask : Ask} {reply : Result (Told ask) Refusal} → HasCalled p q ask reply → Begins p.journal q.journal
call_begins {p} {q} called =
    let call = called.call in
    let first = call.sees.begins in
    let last = looked_begins call.seen called.made in
    subst (Begins p.journal) (sym call.now) (record { rest = first.rest ++ last.rest; is = sym (append_assoc p.journal first.rest last.rest) ∙ (ap (λ w. w ++ last.rest) first.is ∙ last.is) })

-- one that is refused is a look
pub call_looks : {p q : SeatState} {ask : Ask} {r : Refusal} → HasCalled p q ask (Err r) → MayHaveSeen p q × Refused q ask r
call_looks {p} {q} {ask} {r} called =
    let call = called.call in
    let same : q.journal ≡ call.seen = call.now ∙ ap (looked call.seen) call.ends.1 in (
      record { row = called.row; number = called.number; sees = subst (Sees p.number p.journal) (sym same) call.sees; stays = called.stays },
      subst (λ (j : List Entry). IsStopped q r ⊎ MayRefuse q.row.capacity j ask r) (sym same) call.ends.0,
    )

-- one that meets a mark has reached it
pub call_meets : {p q : SeatState} {mark : List Entry} → HasCalled p q (Meet mark) (Ok tt) → Begins mark q.journal
call_meets {p} {q} {mark} called =
    let call = called.call in
    let same : q.journal ≡ call.seen = call.now ∙ ap (looked call.seen) call.ends.1 in
    subst (Begins mark) (sym same) call.ends.0

-- ---- the row is kept

row_learns : (offered : List (List Line)) (old new : SeatState) → Learns seat_ways old offered new → new.row ≡ old.row
row_learns [] old new is = ap (λ (p : SeatState). p.row) is
row_learns (lines ∷ rest) old new (mid, inl looks, others) = row_learns rest mid new others ∙ looks.row
row_learns (lines ∷ rest) old new (mid, inr (learnt, (stamp, done)), others) = row_learns rest mid new others ∙ done.row

row_answered : (request : Request) (old : SeatState) (reply : replies.Reply) (new : SeatState) → MayAnswer seat_ways request old reply new → new.row ≡ old.row
row_answered request old reply new (inl (looks, stopped)) = looks.row
row_answered (command change) old reply new (inr (inl ((stamp, done), is))) = done.row
row_answered (command change) old reply new (inr (inr (looks, refused))) = looks.row
row_answered (resolve wanted explain budget) old reply new (inr (inl (mid, (looks, tells), (offered, learns)))) = row_learns offered mid new learns ∙ looks.row
row_answered (resolve wanted explain budget) old reply new (inr (inr (looks, tells))) = looks.row
row_answered (check wanted lines) old reply new (inr (looks, tells)) = looks.row
row_answered listing old reply new (inr (looks, tells)) = looks.row

row_told : (said : Result Request Refusal) (old : SeatState) (reply : replies.Reply) (new : SeatState)
    → MatchResult said (λ request. MayAnswer seat_ways request old reply new) (λ fault. IsRefused seat_ways fault old reply new) → new.row ≡ old.row
row_told (Ok request) old reply new answers = row_answered request old reply new answers
row_told (Err fault) old reply new (same, tells) = ap (λ (p : SeatState). p.row) same

-- over a line
pub row_kept : (settings : Settings) (line : List ℕ) (old : SeatState) (reply : replies.Reply) (new : SeatState) → IsLawfulWithin settings seat_ways line old reply new → new.row ≡ old.row
row_kept settings line old reply new (inl (same, tells)) = ap (λ (p : SeatState). p.row) same
row_kept settings line old reply new (inr answers) = row_told (asked_within settings.budget line) old reply new answers
