-- `opening::Image::table_entry` meets its contract. Assumes nothing.
use mathlib.Core.Path.{◌≡◌}
use Prim.Native.Nat.{◌+◌, ◌*◌, ◌≤◌}
use native.Mathlib.Omega.{arith}
use lib.ListN.{length}
use Rattle.format.specs.declared.TableKind.TheVariants.{First, Second}
use Rattle.format.specs.Reading.{table_entry}
use Rattle.opening.specs.Answers.{contents}
use Rattle.opening.proofs.Accepted.{entry-inside}
use Rattle.opening.proofs.image.Image.table_entry.Goals as goal
use Rattle.opening.proofs.image.Image.table_entry.Goals.{In-First, In-Second}

-- the kind, in each arm, and that its entry lies in the image
first : (c : In-First) → (contents c.args.self.found).kind ≡ First
first c = c.in-First.is

second : (c : In-Second) → (contents c.args.self.found).kind ≡ Second
second c = c.in-Second.is

first-inside : (c : In-First)
    → let a = c.args in a.self.found.table.0 + 49 + 8 * a.n.0 + 8 ≤ length a.self.bytes.now
first-inside c = rw (first c) at (entry-inside _ _ c.args.self.opens _ c.requires)

second-inside : (c : In-Second)
    → let a = c.args in a.self.found.table.0 + 82 + 4 * a.n.0 + 4 ≤ length a.self.bytes.now
second-inside c = rw (second c) at (entry-inside _ _ c.args.self.opens _ c.requires)

pub overflow_add-table : goal.overflow_add-table
overflow_add-table c = let k = first-inside (goal.at.overflow_add-table c).In-First in omega arith

pub overflow_mul-n : goal.overflow_mul-n
overflow_mul-n c = let k = first-inside (goal.at.overflow_mul-n c).In-First in omega arith

pub overflow_add-table-in-First : goal.overflow_add-table-in-First
overflow_add-table-in-First c = let k = first-inside (goal.at.overflow_add-table-in-First c).In-First in omega arith

pub get-requires : goal.get-requires
get-requires c = let k = first-inside (goal.at.get-requires c).In-First in (omega arith, omega arith)

pub overflow_add-table-in-Second : goal.overflow_add-table-in-Second
overflow_add-table-in-Second c = let k = second-inside (goal.at.overflow_add-table-in-Second c).In-Second in omega arith

pub overflow_mul-n-in-Second : goal.overflow_mul-n-in-Second
overflow_mul-n-in-Second c = let k = second-inside (goal.at.overflow_mul-n-in-Second c).In-Second in omega arith

pub overflow_add-table-in-Second-2 : goal.overflow_add-table-in-Second-2
overflow_add-table-in-Second-2 c = let k = second-inside (goal.at.overflow_add-table-in-Second-2 c).In-Second in omega arith

pub get-requires-in-Second : goal.get-requires-in-Second
get-requires-in-Second c = let k = second-inside (goal.at.get-requires-in-Second c).In-Second in (omega arith, omega arith)

pub returns-in-First : goal.returns-in-First
unfolding table_entry
returns-in-First c = rw (first (goal.at.returns-in-First c).In-First) c.get.ensures

pub returns-in-Second : goal.returns-in-Second
unfolding table_entry
returns-in-Second c = rw (second (goal.at.returns-in-Second c).In-Second) c.get-in-Second.ensures
