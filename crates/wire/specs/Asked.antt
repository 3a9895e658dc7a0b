-- Requests as they are kept, by their texts.
use Rattle.registry.specs.Step.{Publish, Yank, Unyank}
use Rattle.registry.specs.Commands.{change_of}
use Rattle.wire.specs.Shapes.{Request, check, command, listing, resolve}
use Rattle.wire.specs.declared.request.Asked.{Asked}
use Rattle.wire.specs.declared.request.Asked.TheVariants as asked
use Rattle.wire.specs.declared.request.shape.Shape.{Shape}
use Rattle.wire.specs.declared.request.shape.Shape.TheVariants as shape

abbrev pub asked_of : Asked → Request
asked_of (asked.Command c) = command (change_of c)
asked_of (asked.Resolve wanted explain budget) = resolve wanted explain budget
asked_of (asked.Check wanted lines) = check wanted lines
asked_of asked.Listing = listing

-- a shape, by the texts in the line
abbrev pub texts_of : Shape → Request
texts_of (shape.Publish name version needs) = command (Publish name.now version.now needs)
texts_of (shape.Yank name version) = command (Yank name.now version.now)
texts_of (shape.Unyank name version) = command (Unyank name.now version.now)
texts_of (shape.Resolve needs lock explain budget) = resolve (record { needs = needs; lock = lock }) explain budget
texts_of (shape.Check needs lock lines) = check (record { needs = needs; lock = lock }) lines
texts_of shape.Listing = listing
