-- The rows that entries of a listing stand for.
use Rattle.serde_json.specs.Data.{Data}
use Rattle.registry.specs.Registry.{Packages, Publication, package_at, versions_or_none}
use Rattle.replies.specs.Listings.{Row, versions_in}
use Rattle.replies.specs.Replies.{row_json, version_json}
use Rattle.replies.specs.declared.listing.ListingEntry.{ListingEntry}

-- the row of an entry's package
abbrev pub row_at : Packages → ListingEntry → Row
row_at packages entry = (entry.name.now, versions_in (versions_or_none (package_at packages entry.number)))

-- ---- as JSON

abbrev pub entry_json : Packages → ListingEntry → Data
entry_json packages entry = row_json (row_at packages entry)

abbrev pub publication_json : Publication → Data
publication_json publication = version_json (publication.version, publication.yanked)
