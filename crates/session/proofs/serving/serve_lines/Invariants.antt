use Rattle.std.proofs.Common.{List, ℕ}
use Rattle.session.specs.Committing.{Kept, outlet, seen_with}
use Rattle.session.specs.Serving.{reading}
use Rattle.session.proofs.serving.serve_lines.Given as goal

abbrev pub invariant-loop : goal.invariant-loop
invariant-loop g l = (input rest : List ℕ) × Kept (reading l.settings (g.R.Read.remaining l.initial.reader) (g.R.Read.remaining l.reader)
    (seen_with g.K.Keeper.has_file (g.K.Keeper.done l.initial.keeper) (g.W.Write.contents l.initial.writer)) l.initial.state input rest l.buffers.lines)
    (outlet g.K.Keeper.has_file (g.K.Keeper.done l.keeper) (g.W.Write.contents l.writer) l.buffers.outgoing.committed) l.state l.buffers.outgoing.outbox l.buffers.batch
