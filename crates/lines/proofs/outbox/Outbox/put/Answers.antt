use Rattle.std.proofs.Common.{◌∙◌, ◌++◌, List, ℕ, ap, arith, length, refl, subst}
use Rattle.std.proofs.lemmas.Result.{err_from_is_err_and}
use Rattle.std.specs.Io.KnownBytes.{Appends}
use Rattle.lines.proofs.TextLemmas.{beginning-append, puts_through}
use Rattle.lines.proofs.outbox.Outbox.put.Goals as goal

pub returns-in_err-send-clause-text : goal.returns-in_err-send-clause-text
returns-in_err-send-clause-text g c =
    let sent = c.in_err-send.ensures.sent in
    let err = err_from_is_err_and c.from_residual.result c.from_residual.ensures.1 in
    rw err.1 (sent.0, sent.1, beginning-append sent.0 c.args.self.now c.args.text.now sent.2)

pub returns-then-text-capacity-2-clause-text : goal.returns-then-text-capacity-2-clause-text
returns-then-text-capacity-2-clause-text g c =
    let sent = c.in_ok-send.ensures.sent in
    puts_through c.write_text.result _ _ _ c.args.self.now c.send.new.self c.args.text.now (subst (Appends _ _) sent.2 sent.1) c.in_ok-send.ensures.empty c.write_text.ensures.written

pub invariant_of-self : goal.invariant_of-self
invariant_of-self g c = omega (arith, c.append.ensures.capacity, c.self.invariant)

pub returns-then-text-capacity-clause-waits : goal.returns-then-text-capacity-clause-waits
returns-then-text-capacity-clause-waits g c = λ fits. (refl, c.append.ensures.items ∙ ap (λ (waiting : List ℕ). waiting ++ c.args.text.now) c.self.view_is)

-- a text that does not fit behind what waits
pub returns-then-text-capacity-2-clause-waits : goal.returns-then-text-capacity-2-clause-waits
returns-then-text-capacity-2-clause-waits g c = λ fits. absurd (omega (arith, fits, c.self.invariant, c.if-text-capacity.false, c.capacity.ensures, c.len.ensures, c.self.inside.waiting.ok.0, ap length c.self.view_is))

pub returns-in_err-send-clause-waits : goal.returns-in_err-send-clause-waits
returns-in_err-send-clause-waits g c = λ fits. absurd (omega (arith, fits, c.self.invariant, c.if-text-capacity.false, c.capacity.ensures, c.len.ensures, c.self.inside.waiting.ok.0, ap length c.self.view_is))

pub returns-clause-waits : goal.returns-clause-waits
returns-clause-waits g c = λ fits. absurd (omega (arith, fits, c.self.invariant, c.if-text-capacity.false, c.capacity.ensures, c.len.ensures, c.self.inside.waiting.ok.0, ap length c.self.view_is))
