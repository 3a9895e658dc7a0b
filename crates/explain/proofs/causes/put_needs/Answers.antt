use Rattle.std.proofs.Common.{append_assoc}
use Rattle.explain.proofs.causes.put_needs.Goals as goal

pub returns : goal.returns
returns c =
    rw (
      c.in_ok-push_str-5.ensures.bytes,
      c.in_ok-push_str-4.ensures.bytes,
      c.in_ok-push_str-3.ensures.bytes,
      c.in_ok-push_str-2.ensures.bytes,
      c.in_ok-push_str.ensures.bytes,
      c.text.ensures.text,
    ) (simp append_assoc)
