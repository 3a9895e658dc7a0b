use Rattle.std.proofs.Common.{◌∙◌, ap, refl, rules, sym, true≢false}
use Rattle.registry.specs.Registry.{needs_of}
use Rattle.walk.specs.declared.choosing.Choosing.{Choosing}
use Rattle.walk.proofs.Bests.{asks_between, chosen_holds, grown_both, grown_narrows, grown_of}
use Rattle.walk.proofs.choosing.Choosing.choose_version.Goals as goal

pub returns-then-not-branch : goal.returns-then-not-branch
returns-then-not-branch c =
    let old = c.args.self.now in
    let mid : Choosing = record { found = c.push.new.self; asked = old.asked; needed = old.needed; numbers = old.numbers; fresh = old.fresh; taken = old.taken; ruled_out = old.ruled_out; dependents = old.dependents } in
    let kept = c.keep_only.new.self in
    let keeps = c.in_ok-keep_only.ensures in
    let met = c.in_ok-meet.ensures in
    record {
      found = ap (λ m. m.entries) (met.meets.found ∙ keeps.found) ∙ c.in_ok-push.ensures;
      asks = λ whole. absurd (true≢false (sym whole));
      grown = grown_both old kept c.meet.new.self (grown_both old mid kept (grown_of old mid refl refl) (grown_narrows _ c.args.version.0 mid kept keeps)) met.grown;
      holds = λ wanted. chosen_holds c.args.registry.now.packages wanted old mid kept c.meet.new.self c.args.version.0 c.args.version.1 c.requires.new c.in_ok-push.ensures refl refl keeps met.meets;
    }

pub returns : goal.returns
returns c =
    let packages = c.args.registry.now.packages in
    let old = c.args.self.now in
    let mid : Choosing = record { found = c.push.new.self; asked = old.asked; needed = old.needed; numbers = old.numbers; fresh = old.fresh; taken = old.taken; ruled_out = old.ruled_out; dependents = old.dependents } in
    let kept = c.keep_only.new.self in
    let new = c.meet.new.self in
    let keeps = c.in_ok-keep_only.ensures in
    let met = c.in_ok-meet.ensures in
    let settles = c.in_ok-settle.ensures in
    record {
      found = ap (λ m. m.entries) (settles.found ∙ met.meets.found ∙ keeps.found) ∙ c.in_ok-push.ensures;
      asks = λ whole. asks_between packages (needs_of packages c.args.version.0 c.args.version.1) old.asked.items kept.asked.items new.asked.items c.settle.new.self.asked.items (met.asks (search rules)) keeps.asked (settles.asked whole);
      grown = grown_both old new c.settle.new.self (grown_both old kept new (grown_both old mid kept (grown_of old mid refl refl) (grown_narrows _ c.args.version.0 mid kept keeps)) met.grown) settles.grown;
      holds = λ wanted h. settles.holds wanted (chosen_holds packages wanted old mid kept new c.args.version.0 c.args.version.1 c.requires.new c.in_ok-push.ensures refl refl keeps met.meets h);
    }
