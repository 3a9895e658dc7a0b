mod NeedLemmas
mod LineLemmas
mod PublicationLemmas
mod ResolutionLemmas
mod UsualLineLemmas
mod WrittenLemmas
