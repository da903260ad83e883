-- The bytes of a query, and what they read as.
use Rattle.std.specs.Prelude.{ℕ, zero, suc, ◌+◌, Bool, true, false, cond, not, ◌&&◌, List, [], ◌∷◌, ◌++◌, length, Some, None, Ok, Option, ◌==◌, nat_le, nat_lt, slice_index_or}
use Rattle.formats.specs.declared.refusals.Refusal.TheVariants.{NoSuchSlot, TooLong, CutShort, OutOfPlace, LabelZero, TooDeep, NotBound}
use Rattle.formats.specs.declared.commands.Command.{Command}
use Rattle.formats.specs.declared.commands.Command.TheVariants.{Nothing, Document, Single, Held, Union, Scale, Make, Named, Child, Below, Only, For, Let, IfName, Alike}
use Rattle.formats.specs.declared.commands.Sort.{Sort}
use Rattle.formats.specs.declared.commands.Sort.TheVariants.{OfTree, OfForest}
use Rattle.formats.specs.Queries.{Query, none, document, tree_of, held, both, scaled, make, named, child, below, only_of, for_each, let_be, if_name, if_alike}
use Rattle.formats.specs.Reading.{Reading, refuse, refuse_if, ◌then◌, ended_at, byte, word}

-- the command that a byte stands for
abbrev pub command_of : ℕ → Option Command
command_of b =
    cond (b == 0x20) (Some Nothing) (cond (b == 0x21) (Some Document) (cond (b == 0x22) (Some Single) (cond (b == 0x23) (Some Held)
    (cond (b == 0x24) (Some Union) (cond (b == 0x25) (Some Scale) (cond (b == 0x26) (Some Make) (cond (b == 0x27) (Some Named)
    (cond (b == 0x28) (Some Child) (cond (b == 0x29) (Some Below) (cond (b == 0x2A) (Some Only) (cond (b == 0x2B) (Some For)
    (cond (b == 0x2C) (Some Let) (cond (b == 0x2D) (Some IfName) (cond (b == 0x2E) (Some Alike) None))))))))))))))

-- the bytes of a command's operands that are not queries
abbrev pub operand_width : Command → ℕ
operand_width Nothing = 0
operand_width Document = 1
operand_width Single = 1
operand_width Held = 1
operand_width Union = 0
operand_width Scale = 2
operand_width Make = 2
operand_width Named = 1
operand_width Child = 0
operand_width Below = 0
operand_width Only = 2
operand_width For = 0
operand_width Let = 0
operand_width IfName = 3
operand_width Alike = 2

-- whether a command binds a variable in its second query
abbrev pub is_binder : Command → Bool
is_binder Nothing = false
is_binder Document = false
is_binder Single = false
is_binder Held = false
is_binder Union = false
is_binder Scale = false
is_binder Make = false
is_binder Named = false
is_binder Child = false
is_binder Below = false
is_binder Only = false
is_binder For = true
is_binder Let = true
is_binder IfName = false
is_binder Alike = false

-- The sorts of the variables bound at a place, from variable 0 on.
abbrev pub Sorts : Type 0
Sorts = List Sort

abbrev pub same_sort : Sort → Sort → Bool
same_sort OfTree OfTree = true
same_sort OfTree OfForest = false
same_sort OfForest OfTree = false
same_sort OfForest OfForest = true

-- variable v is bound, with this sort
abbrev pub is_bound : Sorts → ℕ → Sort → Bool
is_bound scope v s = nat_lt v (length scope) && same_sort (slice_index_or scope v OfTree) s

-- the sorts with perhaps a new variable
abbrev pub with_new : Sorts → Option Sort → Sorts
with_new scope None = scope
with_new scope (Some s) = scope ++ (s ∷ [])

-- A command with its operands: a query, or what makes a query of those that follow.
-- The last of two may have a new variable.
pub data Head : Type 0 where
  whole : Query → Head
  of_one : (Query → Query) → Head
  of_two : Option Sort → (Query → Query → Query) → Head

-- a query read, and the offset of its end
pub record Read : Type 0 where
  pub query : Query
  pub end : ℕ

-- this query, which ends at this offset
abbrev pub until : ℕ → Query → Reading Read
until end q = Ok (record { query = q; end = end })

module _ (bytes : List ℕ) where
  -- The command at an offset: its byte is known, and its operands are there.
  abbrev pub known_at : ℕ → Option Command → Reading Command
  known_at at None = refuse OutOfPlace at
  known_at at (Some c) = refuse_if (nat_lt (length bytes) (at + 1 + operand_width c)) CutShort at (Ok c)

  -- where bytes end between commands, the place is their length
  abbrev pub command_at : ℕ → Reading Command
  command_at at = refuse_if (nat_le (length bytes) at) CutShort at (known_at at (command_of (byte bytes at)))

  -- The operands of the command at `at`, each at an offset of its own.
  module _ (at : ℕ) where
    abbrev pub slot_at : ℕ → Reading ℕ
    slot_at p = refuse_if (nat_lt 15 (byte bytes p)) NoSuchSlot at (Ok (byte bytes p))

    abbrev pub label_at : ℕ → Reading ℕ
    label_at p = refuse_if (word bytes p == 0) LabelZero at (Ok (word bytes p))

    abbrev pub variable_at : Sorts → Sort → ℕ → Reading ℕ
    variable_at scope s p = refuse_if (not (is_bound scope (byte bytes p) s)) NotBound at (Ok (byte bytes p))

  -- The command at `at` with its operands.
  module _ (scope : Sorts) (at : ℕ) where
    abbrev pub head : Command → Reading Head
    head Nothing = Ok (whole none)
    head Document = slot_at at (at + 1) then λ s. Ok (whole (document s))
    head Single = variable_at at scope OfTree (at + 1) then λ v. Ok (whole (tree_of v))
    head Held = variable_at at scope OfForest (at + 1) then λ v. Ok (whole (held v))
    head Union = Ok (of_two None both)
    head Scale = Ok (of_one (scaled (word bytes (at + 1))))
    head Make = label_at at (at + 1) then λ l. Ok (of_one (make l))
    head Named = variable_at at scope OfTree (at + 1) then λ v. Ok (of_one (named v))
    head Child = Ok (of_one child)
    head Below = Ok (of_one below)
    head Only = label_at at (at + 1) then λ l. Ok (of_one (only_of l))
    head For = Ok (of_two (Some OfTree) for_each)
    head Let = Ok (of_two (Some OfForest) let_be)
    head IfName = variable_at at scope OfTree (at + 1) then λ v. label_at at (at + 2) then λ l. Ok (of_two None (if_name v l))
    head Alike = variable_at at scope OfTree (at + 1) then λ v. variable_at at scope OfTree (at + 2) then λ w. Ok (of_two None (if_alike v w))

  -- The queries that follow a head, each read by `query`.
  abbrev pub tail : (query : Sorts → ℕ → Reading Read) → Sorts → ℕ → Head → Reading Read
  tail query scope at (whole q) = until at q
  tail query scope at (of_one k) = query scope at then λ e. until e.end (k e.query)
  tail query scope at (of_two new k) =
      query scope at then λ e. query (with_new scope new) e.end then λ f. until f.end (k e.query f.query)

  -- The query at an offset, where commands may nest `levels` deep. At one command: its byte, its operands' bytes, its depth, its operands in order.
  unfoldable pub query_at : (levels : ℕ) → Sorts → ℕ → Reading Read
  query_at zero scope at = command_at at then λ c. refuse TooDeep at
  query_at (suc levels) scope at =
      command_at at then λ c.
      refuse_if (is_binder c && nat_le 8 (length scope)) TooDeep at
      (head scope at c then λ h. tail (query_at levels) scope (at + 1 + operand_width c) h)

-- The reading of a query's bytes: at most 16 commands enclose a command.
abbrev pub read_query : List ℕ → Reading Query
read_query bytes =
    refuse_if (nat_lt 1024 (length bytes)) TooLong 0
    (query_at bytes 17 [] 0 then λ r. ended_at bytes r.end r.query)
