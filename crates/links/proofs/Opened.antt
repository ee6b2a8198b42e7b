-- What holds of a table that is ready.
use Rattle.std.proofs.Common.{ℕ, ◌<◌, length, vec_items}
use Rattle.links_theory.proofs.Marks.{ready_at}
use Rattle.links_theory.proofs.Props.{ready_out}
use Rattle.links.specs.declared.link_engine.LinkEngine.{LinkEngine}
use Rattle.links.specs.declared.table.Table.{Table}
use Rattle.links.specs.Tables.{cues_in, ReadyIn}

pub ready_table : (t : Table) (at : ℕ) → ∥ ReadyIn t at ∥₁ → ReadyIn t at
ready_table t at r = ready_out (cues_in t) (vec_items t.nodes) t.heads.value at r

-- the same at another entry
pub ready_there : (t : Table) (at to : ℕ) → ReadyIn t at → to < length (vec_items t.nodes) → ReadyIn t to
ready_there t at to r h = ready_at (cues_in t) (vec_items t.nodes) t.heads.value at to r h

pub opened : (e : LinkEngine) → ReadyIn e.table e.at
opened e = ready_table e.table e.at e.ready

pub moved : (e : LinkEngine) (at : ℕ) → at < length (vec_items e.table.nodes) → ReadyIn e.table at
moved e at h = ready_there e.table e.at at (opened e) h
