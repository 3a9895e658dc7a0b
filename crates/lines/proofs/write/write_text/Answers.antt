use Rattle.std.proofs.Common.{◌≤◌, ℕ, length, ◌-◌, arith, length-take, length-drop}
use Rattle.std.proofs.KnownBytes.{Appends-kept}
use Rattle.lines.proofs.TextLemmas.{take-beginning, writes_more}
use Rattle.lines.proofs.write.write_text.Goals as goal
use Rattle.lines.proofs.write.write_text.Goals.{in-Ok, in-Err}

pub returns-in-Ok-eq0-clause-written : goal.returns-in-Ok-eq0-clause-written
returns-in-Ok-eq0-clause-written g c = (
  _,
  writes_more _ _ _ c.loop.written c.in-Ok-eq0.field-0 c.args.text.now (rw c.in-Ok-eq0.field-0-is (omega arith)) c.loop.invariant.1 (rw c.in-Ok-eq0.is at c.write.ensures.bytes),
  take-beginning _ _,
)

pub returns-in-Err-2-clause-written : goal.returns-in-Err-2-clause-written
returns-in-Err-2-clause-written g c = (_, Appends-kept _ _ _ _ c.loop.invariant.1 c.in-Err.ensures.bytes, take-beginning _ _)

pub loop-preserved : goal.loop-preserved
loop-preserved g c = elim c.match-write.branch [
  | in-Ok w ↦
      let bound : w.in-Ok.n ≤ length c.args.text.now - c.loop.written = omega (arith, w.in-Ok.ensures.bound, length-take {A = ℕ}, length-drop {A = ℕ}) in
      rw w.written-is (omega arith, writes_more _ _ _ c.loop.written w.in-Ok.n c.args.text.now bound c.loop.invariant.1 w.in-Ok.ensures.bytes)
  | in-Err w ↦ rw w.written-is (c.loop.invariant.0, Appends-kept _ _ _ _ c.loop.invariant.1 w.in-Err.ensures.bytes)
]

pub returns-clause-written : goal.returns-clause-written
returns-clause-written g c = (_, c.loop.invariant.1, take-beginning _ _)
