-- A node table: the node that follows each item, and the entry that is written for it.
use Rattle.std.proofs.Common.{◌≡◌, ℕ, ◌+◌, ◌-◌, ◌<◌, ◌≤◌, List, [], ◌∷◌, ◌++◌, length, get_or, sym, ap, ◌∙◌, arith}
use Rattle.std.proofs.lemmas.List.{length-map, get_or-map, map-append}
use Rattle.event_log.specs.declared.item.Item.{Item}
use Rattle.event_log.specs.declared.item.Item.TheVariants.{Enter, Leave, Token, Error}
use Rattle.sinks.specs.declared.table.NodeTable.{NodeTable}
use Rattle.sinks.specs.declared.table.entry.Entry.{Entry}
use Rattle.sinks.specs.Nodes.{items_in, nodes_in, innermost, open_after, around}
use Rattle.sinks.specs.Lent.{stored}
use Rattle.sinks.specs.Table.{items_of}
use Rattle.sinks.proofs.Nodes.{open_push, around_push, closes, closes_none}

module _ (s : NodeTable) where
  abbrev NodeAfter : Item → ℕ → Type 0
  NodeAfter x n = n ≡ innermost (open_after (items_of s ++ x ∷ []))

  -- ---- the node that what follows an item stands in

  module _ (es : List Entry) (shown : es ≡ stored s.entries) where
    pub after_enter : (k : ℕ) → NodeAfter (Enter k) (length es + 1)
    after_enter k =
        sym (ap innermost (open_push (items_of s) (Enter k)) ∙ ap (λ (n : ℕ). n + 1) (length-map (stored s.entries) (λ (e : Entry). e.item) ∙ sym (ap length shown)))

    -- an open node has its enter among the entries
    pub node_within : 0 < s.node → s.node - 1 < length es
    node_within lt =
        let c = closes (items_of s) (rw s.inside at lt) in
        omega (arith, c.0, s.inside, ap length s.kept, length-map (stored s.entries) (λ (e : Entry). e.node), ap length shown)

    pub after_leave : (d : Entry) → 0 < s.node → NodeAfter Leave (get_or es (s.node - 1) d).node
    after_leave d lt =
        let i = s.node - 1 in
        let c = closes (items_of s) (rw s.inside at lt) in
        sym (get_or-map (λ (e : Entry). e.node) es i d 0 (node_within lt))
        ∙ ap (λ (fs : List Entry). get_or (nodes_in fs) i 0) shown
        ∙ ap (λ (ns : List ℕ). get_or ns i 0) s.kept
        ∙ ap (λ (n : ℕ). get_or (around (items_of s)) (n - 1) 0) s.inside
        ∙ c.1
        ∙ sym (ap innermost (open_push (items_of s) Leave))

  pub after_leave_none : s.node ≤ 0 → NodeAfter Leave 0
  after_leave_none le =
      sym (ap innermost (open_push (items_of s) Leave) ∙ closes_none (items_of s) (sym s.inside ∙ omega arith))

  pub after_token : (k w : ℕ) → NodeAfter (Token k w) s.node
  after_token k w = s.inside ∙ sym (ap innermost (open_push (items_of s) (Token k w)))

  pub after_error : (m k : ℕ) → NodeAfter (Error m k) s.node
  after_error m k = s.inside ∙ sym (ap innermost (open_push (items_of s) (Error m k)))

  -- ---- the entry of an item after those that are kept

  module _ (x : Item) (es : List Entry) (new : es ≡ stored s.entries ++ record { item = x; node = s.node } ∷ []) where
    pub items_after : items_in es ≡ items_of s ++ x ∷ []
    items_after = ap items_in new ∙ map-append (λ (e : Entry). e.item) (stored s.entries) (record { item = x; node = s.node } ∷ [])

    pub kept_after : nodes_in es ≡ around (items_in es)
    kept_after =
        ap nodes_in new ∙ map-append (λ (e : Entry). e.node) (stored s.entries) (record { item = x; node = s.node } ∷ [])
        ∙ (λ j. s.kept j ++ s.inside j ∷ [])
        ∙ sym (around_push (items_of s) x) ∙ ap around (sym items_after)

    pub inside_after : {n : ℕ} → NodeAfter x n → n ≡ innermost (open_after (items_in es))
    inside_after h = h ∙ ap (λ (xs : List Item). innermost (open_after xs)) (sym items_after)
