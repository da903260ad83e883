-- The numbers of the refusals.
use Rattle.std.specs.Prelude.{ℕ}
use Rattle.formats.specs.declared.refusals.Refusal.{Refusal}
use Rattle.formats.specs.declared.refusals.Refusal.TheVariants.{IllSized, NoSuchSlot, WorkTooShort, TooLong, CutShort, OutOfPlace, LabelZero, NoSuchItem, TooDeep, NotBound, BytesLeft, LimitPassed, NoRoom, ResultTooLong}

abbrev pub refusal_number : Refusal → ℕ
-- tables of a store concerned have lengths out of range
refusal_number IllSized = 1
-- a slot above 15
refusal_number NoSuchSlot = 2
-- too little working memory
refusal_number WorkTooShort = 3
-- a document above 65,536 bytes, a query above 1,024
refusal_number TooLong = 4
-- bytes that end too early
refusal_number CutShort = 5
-- a byte unknown or out of place
refusal_number OutOfPlace = 6
refusal_number LabelZero = 7
-- an item that is not in the list
refusal_number NoSuchItem = 8
-- a 33rd open tree, a command enclosed by 17, a ninth binder, a write of a tree of over 32 levels
refusal_number TooDeep = 9
-- a variable not bound here, or of the other sort
refusal_number NotBound = 10
-- bytes after the end
refusal_number BytesLeft = 11
-- the budget, the tree limit or the entry limit would be passed
refusal_number LimitPassed = 12
-- too few bytes or items for a document written
refusal_number NoRoom = 13
-- a document written would be above 65,536 bytes
refusal_number ResultTooLong = 14
