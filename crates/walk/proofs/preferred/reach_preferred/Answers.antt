use Rattle.registry.specs.Laws.{OnePreferredSelection}
use Rattle.registry.specs.Preference.{IsPreferredSelection, preferred}
use Rattle.registry.specs.Registry.{Packages}
use Rattle.registry.specs.Requests.{Wanted}
use Rattle.registry.specs.Selections.{Choices, Meets}
use Rattle.walk.specs.Preferring.{IsPreferredIfAny, Selects}
use Rattle.walk.specs.Walks.{ReachesBy}
use Rattle.walk.specs.declared.reached.Reached.{Reached}
use Rattle.walk.specs.declared.reached.Reached.TheVariants.{NotAllowed, Selection, Unmet}
use Rattle.walk.proofs.Preferring.{followed_preferred, one_preferred, preferred_follows}
use Rattle.walk.proofs.preferred.reach_preferred.Goals as goal

answered : (packages : Packages) (wanted : Wanted) (r : Reached) → ReachesBy packages wanted (preferred packages wanted) r → IsPreferredIfAny packages wanted r
answered packages wanted (Selection list) h = followed_preferred packages wanted _ h.follows h.meets
answered packages wanted (Unmet asker index) h = tt
answered packages wanted (NotAllowed p k) h = tt

exact : OnePreferredSelection → (packages : Packages) (wanted : Wanted) (r : Reached) → ReachesBy packages wanted (preferred packages wanted) r
    → (s : Choices) → IsPreferredSelection packages wanted s → Meets packages wanted s → Selects s r
exact once packages wanted (Selection list) h s is meets = one_preferred packages wanted once _ s (followed_preferred packages wanted _ h.follows h.meets) is
exact once packages wanted (Unmet asker index) h s is meets = h.none s (preferred_follows packages wanted s is) meets
exact once packages wanted (NotAllowed p k) h s is meets = h.none s (preferred_follows packages wanted s is) meets

pub returns-clause-preferred : goal.returns-clause-preferred
returns-clause-preferred c = answered c.args.registry.now.packages c.args.request.now c.in_ok-reach.field-0 c.in_ok-reach.ensures

pub returns-clause-exactly : goal.returns-clause-exactly
returns-clause-exactly c = exact c.one_preferred_selection.ensures c.args.registry.now.packages c.args.request.now c.in_ok-reach.field-0 c.in_ok-reach.ensures
