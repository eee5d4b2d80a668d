-- Whether a place is in the set that an element writes, in the words of the promise ("Sets of times").
use Rattle.std.specs.Prelude.{ℕ, ◌≡◌, List, drop}
use Rattle.rules.specs.Markup.{Element}
use Rattle.rules.specs.Sets.{Place}
use Rattle.rules.specs.ListingPromise.{is_meant}
use Rattle.element.specs.Tags.{TagOf}
use Rattle.element.specs.declared.tag.Tag.{Tag}
use Rattle.listing.specs.declared.place.Meant.{Meant}

-- the answer on the element of a tag
abbrev pub MeansElement : List ℕ → Tag → (depth shift : ℕ) → Place → Meant → Type 0
MeansElement s t depth shift x r = (v : Element) (after : List ℕ) → TagOf s depth v after t → (r.is ≡ is_meant shift v x) × (after ≡ drop r.end s)
