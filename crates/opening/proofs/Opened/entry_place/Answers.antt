-- `opening::Opened::entry_place` meets its contract. Assumes nothing.
use mathlib.Core.Path.{◌≡◌}
use Prim.Native.Nat.{◌+◌, ◌*◌, ◌^◌, ◌<◌}
use native.Mathlib.Omega.{arith}
use Rattle.format.specs.declared.TableKind.TheVariants.{First, Second}
use Rattle.opening.specs.Answers.{contents}
use Rattle.opening.proofs.Opened.entry_place.Goals as goal
use Rattle.opening.proofs.Opened.entry_place.Goals.{In-First, In-Second}

-- the kind, in each arm, and its sum
first : (c : In-First) → (contents c.args.self).kind ≡ First
first c = c.in-First.is

second : (c : In-Second) → (contents c.args.self).kind ≡ Second
second c = c.in-Second.is

first_fits : (c : In-First) → let a = c.args in a.self.table.0 + 49 + 8 * a.n.0 < 2 ^ 64
first_fits c = rw (first c) at c.requires

second_fits : (c : In-Second) → let a = c.args in a.self.table.0 + 82 + 4 * a.n.0 < 2 ^ 64
second_fits c = rw (second c) at c.requires

pub overflow_add-result : goal.overflow_add-result
overflow_add-result c = let k = first_fits (goal.at.overflow_add-result c).In-First in omega arith

pub overflow_mul-result : goal.overflow_mul-result
overflow_mul-result c = let k = first_fits (goal.at.overflow_mul-result c).In-First in omega arith

pub overflow_add-result-in-First : goal.overflow_add-result-in-First
overflow_add-result-in-First c = let k = first_fits (goal.at.overflow_add-result-in-First c).In-First in omega arith

pub overflow_add-result-in-Second : goal.overflow_add-result-in-Second
overflow_add-result-in-Second c = let k = second_fits (goal.at.overflow_add-result-in-Second c).In-Second in omega arith

pub overflow_mul-result-in-Second : goal.overflow_mul-result-in-Second
overflow_mul-result-in-Second c = let k = second_fits (goal.at.overflow_mul-result-in-Second c).In-Second in omega arith

pub overflow_add-result-in-Second-2 : goal.overflow_add-result-in-Second-2
overflow_add-result-in-Second-2 c = let k = second_fits (goal.at.overflow_add-result-in-Second-2 c).In-Second in omega arith

pub returns-in-First : goal.returns-in-First
returns-in-First c = rw (first (goal.at.returns-in-First c).In-First)

pub returns-in-Second : goal.returns-in-Second
returns-in-Second c = rw (second (goal.at.returns-in-Second c).In-Second)
