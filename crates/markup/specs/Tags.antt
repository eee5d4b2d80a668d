-- Tags at a position, in the words of the rules ("Markup").
use Rattle.std.specs.Prelude.{ℕ, ◌≡◌, true, false, List, drop, Option, Some, None}
use Rattle.rules.specs.Basics.{bytes}
use Rattle.rules.specs.Parsers.{bad, byte, literal}
use Rattle.rules.specs.Markup.{space, name, tag_attributes, element}
use Rattle.text.specs.Reads.{Good, Reads}
use Rattle.markup.specs.declared.tag.Head.{Head}
use Rattle.markup.specs.declared.tag.Tag.{Tag}

-- the beginning of a tag at a position: its name stands at n, up to m
pub record HeadTo (s : List ℕ) (at n m : ℕ) : Type 0 where
  pub less : Good 1 (byte 60) s at n
  pub named : Good 1 name s n m

-- the beginning of a tag, or none with which an element begins
pub data HeadAt (s : List ℕ) (at : ℕ) : Option Head → Type 0 where
  head : (n m : ℕ) → HeadTo s at n m → HeadAt s at (Some (record { name = n; name_end = m }))
  no_head : ((f d : ℕ) → element f d (drop at s) ≡ bad) → HeadAt s at None

-- a tag at a position as far as its closing at e: its name stands at n, up to m
pub record TagTo (s : List ℕ) (at n m e : ℕ) : Type 0 where
  pub begins : HeadTo s at n m
  pub stop : ℕ
  pub attrs : Good 0 tag_attributes s m stop
  pub gap : Good 0 space s stop e

-- the tag of an element without content, that of one with content, or none with which an element begins
pub data TagAt (s : List ℕ) (at : ℕ) : Option Tag → Type 0 where
  empty_tag : (n m i e : ℕ) → TagTo s at n m i → Good 2 (literal (bytes "/>")) s i e → TagAt s at (Some (record { name = n; name_end = m; end = e; full = false }))
  open_tag : (n m i e : ℕ) → TagTo s at n m i → Reads 2 (literal (bytes "/>")) s i None → Good 1 (byte 62) s i e → TagAt s at (Some (record { name = n; name_end = m; end = e; full = true }))
  no_tag : ((f d : ℕ) → element f d (drop at s) ≡ bad) → TagAt s at None
