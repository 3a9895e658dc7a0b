-- The lines that tell a derivation to a person.
use Rattle.std.specs.Prelude.{ℕ, suc, List, [], ◌∷◌, ◌++◌, codes, decimal, flat_map, map, slice_get, Option, None, Some}
use Rattle.versions.specs.Words.{Text}
use Rattle.terms.specs.declared.term.Term.{Term}
use Rattle.terms.specs.declared.term.Term.TheVariants.{In, NotIn}
use Rattle.registry.specs.Registry.{Packages, matching, number_of}
use Rattle.registry.specs.Requests.{Wanted}
use Rattle.derivations.specs.Facts.{Terms}
use Rattle.derivations.specs.Lines.{Cause, Line, Premise}
use Rattle.derivations.specs.declared.facts.Cause.TheVariants as cause
use Rattle.explain.specs.Choices.{choice_text, listed, package_text, set_text}

-- ---- what a line says

abbrev pub term_text : Packages → ℕ → Term → Text
term_text packages p (In set) = choice_text packages p set
term_text packages p (NotIn set) = codes "not " ++ choice_text packages p set

-- the terms in the order of their packages
abbrev pub terms_text : Packages → Terms → Text
terms_text packages terms = listed (map (λ (t : ℕ × Term). term_text packages t.0 t.1) terms)

-- ---- why a line stands

-- what is named is needed with this requirement, which leaves a set
abbrev pub needs_text : Text → Text → Text
needs_text name need = codes " needs " ++ (name ++ (codes " \"" ++ (need ++ codes "\" in ")))

-- each of these versions depends on the target
unfoldable pub premise_text : Packages → Premise → Text
premise_text packages premise =
    choice_text packages premise.package premise.versions
    ++ (needs_text (package_text packages premise.target) premise.need ++ set_text packages premise.target premise.within)

-- the published versions that meet a requirement; of a name without a number there are none
abbrev pub matching_text : Packages → Option ℕ → Text → Text
matching_text packages None need = codes "{}"
matching_text packages (Some p) need = set_text packages p (matching packages p need)

-- the need of the request at this place
unfoldable pub need_text : Packages → Option (Text × Text) → Text
need_text packages None = []
need_text packages (Some need) =
    codes "the request" ++ (needs_text need.0 need.1 ++ matching_text packages (number_of packages need.0) need.1)

abbrev pub cause_text : Packages → Wanted → Cause → Text
cause_text packages wanted (cause.Line n) = codes "line " ++ decimal n
cause_text packages wanted (cause.Premise premise) = premise_text packages premise
cause_text packages wanted (cause.Need i) = need_text packages (slice_get wanted.needs i)
cause_text packages wanted (cause.NotAllowed p versions) = choice_text packages p versions ++ codes " is not allowed"
cause_text packages wanted cause.Root = codes "the request must be met"

-- ---- lines

-- a line with its number
unfoldable pub line_text : Packages → Wanted → ℕ → Line → Text
line_text packages wanted number line =
    decimal number ++ (codes ". never (" ++ (terms_text packages line.conclusion
    ++ (codes "), because " ++ (cause_text packages wanted line.causes.0
    ++ (codes " and " ++ cause_text packages wanted line.causes.1)))))

-- the lines, numbered from this number on
abbrev pub numbered_from : Packages → Wanted → ℕ → List Line → List Text
numbered_from packages wanted number [] = []
numbered_from packages wanted number (line ∷ rest) = line_text packages wanted number line ∷ numbered_from packages wanted (suc number) rest

abbrev pub closing : Text
closing = codes "So no selection meets the request."

-- the lines of an explanation: one for each line of the derivation, numbered from 1, and the closing one
abbrev pub explanation : Packages → Wanted → List Line → List Text
explanation packages wanted lines = numbered_from packages wanted 1 lines ++ closing ∷ []

-- a text of lines, each ended by a line feed
abbrev pub text_of : List Text → Text
text_of lines = flat_map (λ (line : Text). line ++ 10 ∷ []) lines
