-- A search on its way down: the update word, the key and the child of each node.
use Rattle.std.proofs.Common.{◌≡◌, ◌≢◌, ℕ, ◌/◌, ◌<◌, ◌≤◌, Bool, true, false, List, length, Option, refl, sym, ap, subst, ◌∙◌, inl, inr, arith}
use Rattle.std.specs.Prelude.{◌==◌, if◌then◌else◌, nat_lt, Some}
use Rattle.std.specs.FinMap as map
use Rattle.std.proofs.lemmas.Bool.{true≢false, or_right}
use Rattle.word_fields.specs.Versioned.{versioned_value}
use Rattle.lin_report.specs.declared.calls.Op.{Op}
use Rattle.lin_report.specs.Commands.{KEY_LIMIT}
use Rattle.lin_report.specs.Object.{map_object}
use Rattle.normal_traits.specs.World.{Change, World, held_after}
use Rattle.tree_help.specs.Updates.{inner}
use Rattle.ellen_tree_form.specs.declared.states.TreeSearch.{TreeSearch}
use Rattle.ellen_tree_form.specs.declared.states.TreeSearch.TheVariants.{AtUpdate, AtChild, AtLeaf}
use Rattle.ellen_tree_form.specs.declared.states.Passed.{Passed}
use Rattle.ellen_tree_form.specs.Words.{is_internal, child_at, update_at, key_at}
use Rattle.ellen_tree_form.specs.Search.{Asks, came_to, leaf_of}
use Rattle.ellen_tree_form.specs.Shape.{Shape, IsBelow, is_node, made_node, child_of, is_left, way, OnWay}
use Rattle.ellen_tree_form.specs.Shape.OnWay.{below}
use Rattle.ellen_tree_form.specs.Knowledge.{Learnt, Reaches, WasTold, HasPassed, IsAt, SawUpdate}
use Rattle.ellen_tree_form.specs.Knowledge.Reaches.{on, off, told}
use Rattle.ellen_tree_form.proofs.Order.SwingWays.{inner_same, inner_is, inner_block, leaf_names, told_now}
use Rattle.ellen_tree_steps.proofs.Lists.Waiting.{brought}
use Rattle.ellen_tree_search.proofs.Known.{known_now}
use Rattle.client_lemmas.proofs.Growing.{first_all}

module _ (world : World) (shape : Shape world) (op : Op) (since : ℕ) (limit : op.key < KEY_LIMIT) (began : since ≤ length world.changes) where
  -- ---- from a node to its child

  -- a node that was brought isn't the root
  made_some : (block : ℕ) → made_node world.changes block ≡ true → block ≢ 0
  made_some block made e =
      let b = brought world.changes block made in
      omega (arith, (shape.flaggers b.change.list (shape.flagged b.change b.among)).some, b.block_is, e)

  -- on the way to a node, or marked since: the way goes on
  step_down : (node reference : ℕ) → reference ≡ inner node → IsBelow world.changes (way world.words op.key node) → Reaches world since op.key reference → Reaches world since op.key (way world.words op.key node)
  step_down node reference e names (on other named w) =
      let here : OnWay world.words op.key node = subst (OnWay world.words op.key) (inner_same other node (sym named ∙ e)) w in
      by_name here names
    where
      by_name : OnWay world.words op.key node → IsBelow world.changes (way world.words op.key node) → Reaches world since op.key (way world.words op.key node)
      by_name here (inl next) = on next.0 next.2 (below node here next.2)
      by_name here (inr leaf) =
          let out = leaf_names world.changes (way world.words op.key node) leaf in
          told out (record {
            is = leaf;
            count = length world.changes;
            not_before = began;
            made = omega arith;
            told = ap (λ (cs : List Change). map.get (held_after map_object cs) op.key) (first_all world.changes) ∙ told_now world shape op.key node limit here out;
          })
  step_down node reference e names (off other named is marked rest) = subst (λ n. Reaches world since op.key (way world.words op.key n)) (inner_same other node (sym named ∙ e)) rest
  step_down node reference e names (told out t) = absurd (true≢false (sym (inner_is node) ∙ ap is_internal (sym e) ∙ out))

  -- a leaf that is reached was told
  leaf_told : (reference : ℕ) → is_internal reference ≡ false → Reaches world since op.key reference → WasTold world since op.key reference
  leaf_told reference out (on node named w) = absurd (true≢false (sym (inner_is node) ∙ ap is_internal (sym named) ∙ out))
  leaf_told reference out (off node named is marked rest) = absurd (true≢false (sym (inner_is node) ∙ ap is_internal (sym named) ∙ out))
  leaf_told reference out (told out' t) = t

  -- ---- the steps

  pub update_fed : (above : Option Passed) (node : ℕ) → IsAt world since op.key above node → SawUpdate world node (world.words (update_at node))
  update_fed above node at = record { seen = λ clear. inl refl; known = known_now world shape node at.is; fits = (shape.stored node at.is).update_fits }

  module _ (above : Option Passed) (node update key : ℕ) (at : IsAt world since op.key above node) (saw : SawUpdate world node update) (key_is : key ≡ world.words (key_at node)) where
    abbrev last : Passed
    last = record { node = node; update = update; left = nat_lt op.key key; child = world.words (child_at node (nat_lt op.key key)) }

    side : nat_lt op.key key ≡ is_left world.words op.key node
    side = ap (nat_lt op.key) key_is

    names : IsBelow world.changes (versioned_value (world.words (child_at node (nat_lt op.key key))))
    names = (shape.stored node at.is).leads (nat_lt op.key key)

    reached : Reaches world since op.key (versioned_value (world.words (child_at node (nat_lt op.key key))))
    reached =
        subst (λ b. Reaches world since op.key (child_of world.words node b)) (sym side)
        (step_down node (inner node) refl (subst (λ b. IsBelow world.changes (child_of world.words node b)) side names) at.reaches)

    passed : HasPassed world since op.key last
    passed = record {
      is = at.is;
      reaches = at.reaches;
      side = side;
      seen = saw.seen;
      known = saw.known;
      same = λ clear clean here. refl;
      fits = (saw.fits, (shape.stored node at.is).fits (nat_lt op.key key));
    }

    came_well : Asks (AtChild op above node update key) → (b : Bool) → is_internal (versioned_value (world.words (child_at node (nat_lt op.key key)))) ≡ b
        → let next : TreeSearch = if b then AtUpdate op (Some last) (versioned_value (world.words (child_at node (nat_lt op.key key))) / 4) else AtLeaf op above last in Learnt next op world since × Asks next
    came_well asks true is = by_name names
      where
        by_name : IsBelow world.changes (versioned_value (world.words (child_at node (nat_lt op.key key))))
            → let next : TreeSearch = AtUpdate op (Some last) (versioned_value (world.words (child_at node (nat_lt op.key key))) / 4) in Learnt next op world since × Asks next
        by_name (inl next) =
            let block : versioned_value (world.words (child_at node (nat_lt op.key key))) / 4 ≡ next.0 = ap (λ r. r / 4) next.2 ∙ inner_block next.0 in
            let again : inner (versioned_value (world.words (child_at node (nat_lt op.key key))) / 4) ≡ versioned_value (world.words (child_at node (nat_lt op.key key))) = ap inner block ∙ sym next.2 in
            let is_next : is_node world.changes next.0 ≡ true = or_right (next.0 == 0) (made_node world.changes next.0) next.1 in (
              (
                refl,
                record {
                  is = subst (λ n. is_node world.changes n ≡ true) (sym block) is_next;
                  reaches = subst (Reaches world since op.key) (sym again) reached;
                  came = (passed, sym again, λ e. made_some next.0 next.1 (sym block ∙ e));
                },
              ),
              (asks.1, omega (arith, block, (shape.stored next.0 is_next).small)),
            )
        by_name (inr leaf) = absurd (true≢false (sym is ∙ leaf_names world.changes (versioned_value (world.words (child_at node (nat_lt op.key key)))) leaf))
    came_well asks false out = ((refl, at.came, record { passed = passed; told = leaf_told (leaf_of last) out reached }), (asks.0, asks.1))

    pub child_fed : Asks (AtChild op above node update key) → Learnt (came_to op above last) op world since × Asks (came_to op above last)
    child_fed asks = came_well asks (is_internal (versioned_value (world.words (child_at node (nat_lt op.key key))))) refl
