use Rattle.std.proofs.Common.{⊎_elim, rules}
use Rattle.event_log.specs.declared.item.Item.TheVariants.{Enter}
use Rattle.sinks.specs.declared.table.entry.Entry.{Entry}
use Rattle.sinks.proofs.Tables.{node_within, after_enter, after_leave, after_leave_none, after_token, after_error}
use Rattle.sinks.proofs.table.NodeTable.node_after.Goals as goal

pub offset_bounds-entries-self : goal.offset_bounds-entries-self
offset_bounds-entries-self c =
    let h = node_within c.args.self.now _ c.as_slice-entries.ensures c.if-self-gt0.true in
    search rules

pub bounds-entries-self : goal.bounds-entries-self
bounds-entries-self c = node_within c.args.self.now _ c.as_slice-entries.ensures c.if-self-gt0.true

-- what stands for an entry past the end
abbrev none : Entry
none = record { item = Enter 0; node = 0 }

pub returns-in-Enter : goal.returns-in-Enter
returns-in-Enter c = rw c.in-Enter.is (after_enter c.args.self.now _ c.as_slice-entries.ensures c.in-Enter.kind)

pub returns-in-Leave : goal.returns-in-Leave
returns-in-Leave c = rw c.in-Leave.is (after_leave c.args.self.now _ c.as_slice-entries.ensures none c.if-self-gt0.true)

pub returns-in-Leave-2 : goal.returns-in-Leave-2
returns-in-Leave-2 c = rw c.in-Leave-2.is (after_leave_none c.args.self.now c.if-self-gt0.false)

pub returns-in-Token : goal.returns-in-Token
returns-in-Token c =
    let s = c.args.self.now in
    ⊎_elim (λ t. rw t.2 (after_token s t.0 t.1)) (λ e. rw e.2 (after_error s e.0 e.1)) c.in-Token.is
