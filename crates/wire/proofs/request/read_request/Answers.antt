use Rattle.std.proofs.Common.{rules}
use Rattle.wire.proofs.RequestLemmas.{request_of-bad, request_of-long, request_of-read}
use Rattle.wire.proofs.request.read_request.Goals as goal

pub returns-then-line-gt-LINE_LIMIT : goal.returns-then-line-gt-LINE_LIMIT
returns-then-line-gt-LINE_LIMIT c = request_of-long c.args.line.now c.if-line-gt-LINE_LIMIT.true

pub returns-in-Ok : goal.returns-in-Ok
returns-in-Ok c = rw (request_of-read _ _ c.if-line-gt-LINE_LIMIT.false c.in-Ok.ensures.ok.0 c.in-Ok.ensures.ok.1) c.request_in.ensures

pub returns-else-is_memory : goal.returns-else-is_memory
returns-else-is_memory c = request_of-bad _ (c.in-Err.ensures.err (λ m. let h = c.if-is_memory.ensures.1 m in search rules))
