-- The bytes of a document, and what they read as: a forest whose annotations are item numbers.
use Rattle.std.specs.Prelude.{ℕ, zero, suc, ◌+◌, cond, List, [], ◌∷◌, length, Ok, ◌==◌, nat_le, nat_lt}
use Rattle.formats.specs.declared.refusals.Refusal.TheVariants.{TooLong, CutShort, OutOfPlace, LabelZero, NoSuchItem, TooDeep}
use Rattle.formats.specs.declared.events.Event.{Event}
use Rattle.formats.specs.declared.events.Event.TheVariants.{Opens, Closes, Ends}
use Rattle.formats.specs.Trees.{Forest, tree, empty, entry, beside}
use Rattle.formats.specs.Reading.{Reading, refuse, refuse_if, ◌then◌, ended_at, byte, word}

-- A tree that is open: its label, its item, and its elder siblings.
pub record Open : Type 0 where
  pub label : ℕ
  pub item : ℕ
  pub elder : Forest ℕ

-- CLOSE ends the youngest open tree: it joins its elder siblings.
abbrev pub closed : Open → Forest ℕ → Forest ℕ
closed o children = beside o.elder (entry (tree o.label children) o.item empty)

module _ (bytes : List ℕ) (items : ℕ) where
  -- OPEN at an offset, with `depth` trees open: refused, or a label and an item.
  abbrev pub opening : (at depth : ℕ) → Reading Event
  opening at depth =
      refuse_if (nat_lt (length bytes) (at + 5)) CutShort at
      (refuse_if (nat_le 32 depth) TooDeep at
      (refuse_if (word bytes (at + 1) == 0) LabelZero at
      (refuse_if (nat_le items (word bytes (at + 3))) NoSuchItem at
      (Ok (Opens (word bytes (at + 1)) (word bytes (at + 3)))))))

  -- The command at an offset.
  abbrev pub event : (at depth : ℕ) → Reading Event
  event at depth =
      refuse_if (nat_le (length bytes) at) CutShort at
      (cond (byte bytes at == 0x10) (opening at depth)
      (cond (byte bytes at == 0x11) (refuse_if (depth == 0) OutOfPlace at (Ok Closes))
      (cond (byte bytes at == 0x1F) (refuse_if (nat_lt 0 depth) OutOfPlace at (Ok Ends))
      (refuse OutOfPlace at))))

  -- What a command at an offset does. The trees of `outer` are open, the youngest first; `here` are the children so far of
  -- the youngest, or of the document; `next` reads on.
  abbrev pub follow : (next : ℕ → List Open → Forest ℕ → Reading (Forest ℕ)) (at : ℕ) → List Open → Forest ℕ → Event → Reading (Forest ℕ)
  follow next at outer here (Opens l i) = next (at + 5) (record { label = l; item = i; elder = here } ∷ outer) empty
  follow next at [] here Closes = refuse OutOfPlace at
  follow next at (o ∷ outer) here Closes = next (at + 1) outer (closed o here)
  follow next at outer here Ends = ended_at bytes (at + 1) here

  -- The commands from an offset on, of which there are fewer than `turns`.
  unfoldable pub commands : (turns : ℕ) (at : ℕ) → List Open → Forest ℕ → Reading (Forest ℕ)
  commands zero at outer here = refuse CutShort at
  commands (suc turns) at outer here = event at (length outer) then follow (commands turns) at outer here

-- The reading of a document's bytes, with a list of so many items.
abbrev pub read_document : List ℕ → ℕ → Reading (Forest ℕ)
read_document bytes items =
    refuse_if (nat_lt 65536 (length bytes)) TooLong 0 (commands bytes items (length bytes + 1) 0 [] empty)
