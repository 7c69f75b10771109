-- What the set holds after the changes, and what an operation on it tells.
use Rattle.std.proofs.Common.{◌≡◌, ◌≢◌, ℕ, zero, suc, ◌-◌, ◌/◌, ◌<◌, ◌≤◌, Bool, true, false, not, ◌==◌, ◌||◌, ◌&&◌, List, [], ◌∷◌, ◌++◌, length, drop, refl, sym, ap, ◌∙◌, inl, inr, ◌⊎◌, arith}
use Rattle.std.proofs.lemmas.Bool.{true≢false, false≢true, eq-eqb, ne_eqb, cases_eq, cases_lt}
use Rattle.std.specs.Ordering.{nat_cmp}
use Rattle.std.specs.FinSet as set
use Rattle.lin_report.specs.declared.calls.Client.{Client}
use Rattle.lin_report.specs.declared.calls.Client.TheVariants as client
use Rattle.lin_report.specs.declared.calls.Op.{Op}
use Rattle.lin_report.specs.declared.calls.Reply.{Reply}
use Rattle.lin_report.specs.declared.calls.Reply.TheVariants.{Yes, No, Value, Empty}
use Rattle.lin_report.specs.declared.calls.Outcome.TheVariants.{Plain}
use Rattle.lin_report.specs.declared.calls.TheConstants.{ADD, DEL, HAS, MIN}
use Rattle.lin_report.specs.Object.{Object, object_of, set_object, list_object, set_apply, yes_if, value_or_empty}
use Rattle.lin_report.proofs.Least.{Keys, least_is, least_none}
use Rattle.lin_report.proofs.AppliedSets.{applied_add, applied_del, applied_has, applied_min, contains_insert, contains_remove, insert_same, remove_same}
use Rattle.normal_traits.specs.World.{Change, World, held_after, first_changes, Observes, RightSince}
use Rattle.harris_list_form.specs.Lists.{Lists, IsOfSets}
use Rattle.harris_list_form.specs.Nodes.{holds, node_key}
use Rattle.harris_list_form.specs.Shape.{AreEffective}
use Rattle.harris_list_form.specs.Knowledge.{WasHeld, WasLeast}
use Rattle.harris_list_form.proofs.Steps.Changes.{holds_own, holds_other}
use Rattle.harris_list_form.proofs.Held.Entries.{adds_is, dels_is}

-- an object that is a set of keys
pub record IsSet (object : Object) : Type 0 where
  pub has : object.Held → ℕ → Bool
  pub none : (key : ℕ) → has object.empty key ≡ false
  pub adds : (op : Op) (held : object.Held) → op.code ≡ ADD → (key : ℕ) → has (object.apply op held).0 key ≡ (key == op.key || has held key)
  pub deletes : (op : Op) (held : object.Held) → op.code ≡ DEL → (key : ℕ) → has (object.apply op held).0 key ≡ (not (key == op.key) && has held key)
  pub add_told : (op : Op) (held : object.Held) → op.code ≡ ADD → (object.apply op held).1 ≡ yes_if (not (has held op.key))
  pub del_told : (op : Op) (held : object.Held) → op.code ≡ DEL → (object.apply op held).1 ≡ yes_if (has held op.key)
  pub has_told : (op : Op) (held : object.Held) → op.code ≡ HAS → (object.apply op held).1 ≡ yes_if (has held op.key)
  pub add_stays : (op : Op) (held : object.Held) → op.code ≡ ADD → has held op.key ≡ true → (object.apply op held).0 ≡ held
  pub del_stays : (op : Op) (held : object.Held) → op.code ≡ DEL → has held op.key ≡ false → (object.apply op held).0 ≡ held
  pub has_stays : (op : Op) (held : object.Held) → op.code ≡ HAS → (object.apply op held).0 ≡ held
  pub min_told : (op : Op) (held : object.Held) (key : ℕ) → op.code ≡ MIN → has held key ≡ true → ((lower : ℕ) → lower < key → has held lower ≡ false) → (object.apply op held).1 ≡ Value key
  pub none_told : (op : Op) (held : object.Held) → op.code ≡ MIN → ((key : ℕ) → has held key ≡ false) → (object.apply op held).1 ≡ Empty
  pub min_stays : (op : Op) (held : object.Held) → op.code ≡ MIN → (object.apply op held).0 ≡ held

-- ---- the set object is one

-- the least key is told, where a member is below no other
min_told : (op : Op) (keys : Keys) (key : ℕ) → op.code ≡ MIN → set.contains keys key ≡ true → ((lower : ℕ) → lower < key → set.contains keys lower ≡ false) → (set_apply op keys).1 ≡ Value key
min_told op keys key e there none =
    ap (λ (r : Keys × Reply). r.1) (applied_min op keys e) ∙ ap value_or_empty (least_is keys key there (λ other is. by_order other is (cases_lt other key)))
  where
    by_order : (other : ℕ) → set.contains keys other ≡ true → (other < key) ⊎ (key ≤ other) → key ≤ other
    by_order other is (inl lower) = absurd (true≢false (sym is ∙ none other lower))
    by_order other is (inr higher) = higher

set_is : IsSet set_object
set_is =
    record {
      has = set.contains;
      none = λ key. set.contains-empty nat_cmp key;
      adds = λ op keys e key. ap (λ (r : Keys × Reply). set.contains r.0 key) (applied_add op keys e) ∙ contains_insert keys op.key key;
      deletes = λ op keys e key. ap (λ (r : Keys × Reply). set.contains r.0 key) (applied_del op keys e) ∙ contains_remove keys op.key key;
      add_told = λ op keys e. ap (λ (r : Keys × Reply). r.1) (applied_add op keys e);
      del_told = λ op keys e. ap (λ (r : Keys × Reply). r.1) (applied_del op keys e);
      has_told = λ op keys e. ap (λ (r : Keys × Reply). r.1) (applied_has op keys e);
      add_stays = λ op keys e there. ap (λ (r : Keys × Reply). r.0) (applied_add op keys e) ∙ insert_same keys op.key there;
      del_stays = λ op keys e absent. ap (λ (r : Keys × Reply). r.0) (applied_del op keys e) ∙ remove_same keys op.key absent;
      has_stays = λ op keys e. ap (λ (r : Keys × Reply). r.0) (applied_has op keys e);
      min_told = min_told;
      none_told = λ op keys e none. ap (λ (r : Keys × Reply). r.1) (applied_min op keys e) ∙ ap value_or_empty (least_none keys none);
      min_stays = λ op keys e. ap (λ (r : Keys × Reply). r.0) (applied_min op keys e);
    }

-- that of the list differs in what it serves alone
list_is : IsSet list_object
list_is =
    record {
      has = set_is.has;
      none = set_is.none;
      adds = set_is.adds;
      deletes = set_is.deletes;
      add_told = set_is.add_told;
      del_told = set_is.del_told;
      has_told = set_is.has_told;
      add_stays = set_is.add_stays;
      del_stays = set_is.del_stays;
      has_stays = set_is.has_stays;
      min_told = set_is.min_told;
      none_told = set_is.none_told;
      min_stays = set_is.min_stays;
    }

pub object_is : (c : Client) → IsOfSets c → IsSet (object_of c)
object_is client.Queue sets = absurd sets
object_is client.List sets = list_is
object_is client.Tree sets = absurd sets
object_is client.Buckets sets = set_is

-- ---- what is held

module _ (object : Object) (is : IsSet object) where
  more_key : (key k : ℕ) (b : Bool) → k ≢ key → (key == k || b) ≡ b
  more_key key k b other = ap (λ t. t || b) (ne_eqb key k (λ e. other (sym e)))

  other_key : (key k : ℕ) (b : Bool) → k ≢ key → (not (key == k) && b) ≡ b
  other_key key k b other = ap (λ t. not t && b) (ne_eqb key k (λ e. other (sym e)))

  pub held_is : (changes : List Change) → AreEffective changes → (key : ℕ) → is.has (held_after object changes) key ≡ holds changes key
  held_is [] effective key = is.none key
  held_is (change ∷ older) (inl add, effective) key = is.adds change.list.call.op (held_after object older) add.0 key ∙ by_key (held_is older effective key) (cases_eq change.list.call.op.key key)
    where
      by_key : is.has (held_after object older) key ≡ holds older key → (change.list.call.op.key ≡ key) ⊎ (change.list.call.op.key ≡ key → ⊥) → (key == change.list.call.op.key || is.has (held_after object older) key) ≡ holds (change ∷ older) key
      by_key earlier (inl same) =
          ap (λ b. b || is.has (held_after object older) key) (eq-eqb key change.list.call.op.key (sym same)) ∙ sym (holds_own change older key same ∙ adds_is change.list.call.op add.0)
      by_key earlier (inr other) =
          more_key key change.list.call.op.key (is.has (held_after object older) key) other ∙ earlier ∙ sym (holds_other change older key other)
  held_is (change ∷ older) (inr del, effective) key = is.deletes change.list.call.op (held_after object older) del.0 key ∙ by_key (held_is older effective key) (cases_eq change.list.call.op.key key)
    where
      by_key : is.has (held_after object older) key ≡ holds older key → (change.list.call.op.key ≡ key) ⊎ (change.list.call.op.key ≡ key → ⊥) → (not (key == change.list.call.op.key) && is.has (held_after object older) key) ≡ holds (change ∷ older) key
      by_key earlier (inl same) =
          ap (λ b. not b && is.has (held_after object older) key) (eq-eqb key change.list.call.op.key (sym same)) ∙ sym (holds_own change older key same ∙ dels_is change.list.call.op del.0)
      by_key earlier (inr other) =
          other_key key change.list.call.op.key (is.has (held_after object older) key) other ∙ earlier ∙ sym (holds_other change older key other)

  -- each change really changed it
  effective_first : (change : Change) (older : List Change) → AreEffective (change ∷ older) → ¬ Observes object change.list.call.op (held_after object older)
  effective_first change older (inl add, effective) same =
      true≢false
      (sym (is.adds change.list.call.op (held_after object older) add.0 change.list.call.op.key
      ∙ ap (λ b. b || is.has (held_after object older) change.list.call.op.key) (eq-eqb change.list.call.op.key change.list.call.op.key refl))
      ∙ ap (λ held. is.has held change.list.call.op.key) same ∙ held_is older effective change.list.call.op.key ∙ add.1)
  effective_first change older (inr del, effective) same =
      false≢true
      (sym (is.deletes change.list.call.op (held_after object older) del.0 change.list.call.op.key
      ∙ ap (λ b. not b && is.has (held_after object older) change.list.call.op.key) (eq-eqb change.list.call.op.key change.list.call.op.key refl))
      ∙ ap (λ held. is.has held change.list.call.op.key) same ∙ held_is older effective change.list.call.op.key ∙ del.1)

  pub effective_behind : (newer older : List Change) (change : Change) → AreEffective (newer ++ change ∷ older) → ¬ Observes object change.list.call.op (held_after object older)
  effective_behind [] older change effective = effective_first change older effective
  effective_behind (newest ∷ newer) older change effective = effective_behind newer older change effective.1

  -- the reply to a change is yes
  pub change_told : (op : Op) (changes : List Change) → AreEffective changes
      → ((op.code ≡ ADD) × (holds changes op.key ≡ false)) ⊎ ((op.code ≡ DEL) × (holds changes op.key ≡ true)) → (object.apply op (held_after object changes)).1 ≡ Yes
  change_told op changes effective (inl add) =
      is.add_told op (held_after object changes) add.0 ∙ ap (λ b. yes_if (not b)) (held_is changes effective op.key ∙ add.1)
  change_told op changes effective (inr del) = is.del_told op (held_after object changes) del.0 ∙ ap yes_if (held_is changes effective op.key ∙ del.1)

  -- ---- observations

  dropped : (n : ℕ) (changes : List Change) → AreEffective changes → AreEffective (drop n changes)
  dropped zero changes effective = effective
  dropped (suc n) [] effective = effective
  dropped (suc n) (change ∷ changes) effective = dropped n changes effective.1

  module _ (world : World) (effective : AreEffective world.changes) (op : Op) (since : ℕ) where
    told_right : (reply : Reply) (b : Bool) → (was : WasHeld world.changes since op.key b)
        → (is.has (held_after object (first_changes was.count world.changes)) op.key ≡ b → ((object.apply op (held_after object (first_changes was.count world.changes))).0 ≡ held_after object (first_changes was.count world.changes))
        × (reply ≡ (object.apply op (held_after object (first_changes was.count world.changes))).1)) → RightSince object world op since (Plain reply)
    told_right reply b was tells =
        let held = held_is (first_changes was.count world.changes) (dropped (length world.changes - was.count) world.changes effective) op.key ∙ was.held in
        record {
          count = was.count;
          not_before = omega (arith, was.not_before);
          made = omega (arith, was.made);
          observes = (tells held).0;
          told = (tells held).1;
        }

    pub has_right : (b : Bool) → op.code ≡ HAS → WasHeld world.changes since op.key b → RightSince object world op since (Plain (yes_if b))
    has_right b code was =
        told_right (yes_if b) b was (λ held. (is.has_stays op _ code, sym (is.has_told op _ code ∙ ap yes_if held)))

    pub del_right : op.code ≡ DEL → WasHeld world.changes since op.key false → RightSince object world op since (Plain No)
    del_right code was = told_right No false was (λ held. (is.del_stays op _ code held, sym (is.del_told op _ code ∙ ap yes_if held)))

    pub add_right : op.code ≡ ADD → WasHeld world.changes since op.key true → RightSince object world op since (Plain No)
    add_right code was = told_right No true was (λ held. (is.add_stays op _ code held, sym (is.add_told op _ code ∙ ap (λ b. yes_if (not b)) held)))

    -- ---- the least key of the one list

    module _ (lists : Lists) (start reference : ℕ) (code : op.code ≡ MIN) (one : (key : ℕ) → lists.start_of key ≡ start) (was : WasLeast lists world.changes since start reference) where
      abbrev then : object.Held
      then = held_after object (first_changes was.count world.changes)

      then_held : (key : ℕ) → is.has then key ≡ holds (first_changes was.count world.changes) key
      then_held = held_is (first_changes was.count world.changes) (dropped (length world.changes - was.count) world.changes effective)

      right : (reply : Reply) → reply ≡ (object.apply op then).1 → RightSince object world op since (Plain reply)
      right reply told =
          record { count = was.count; not_before = was.not_before; made = was.made; observes = is.min_stays op then code; told = told }

      pub min_right : reference ≢ 0 → RightSince object world op since (Plain (Value (node_key world.changes (reference / 4))))
      min_right some =
          right (Value (node_key world.changes (reference / 4)))
          (sym (is.min_told op then (node_key world.changes (reference / 4)) code (then_held (node_key world.changes (reference / 4)) ∙ was.held some)
          (λ lower low. then_held lower ∙ was.none lower (one lower) (inr low))))

      pub none_right : reference ≡ 0 → RightSince object world op since (Plain Empty)
      none_right null = right Empty (sym (is.none_told op then code (λ key. then_held key ∙ was.none key (one key) (inl null))))

-- the set holds the keys that the newest changes tell
pub set_held : (changes : List Change) → AreEffective changes → (key : ℕ) → set.contains (held_after set_object changes) key ≡ holds changes key
unfolding set_is
set_held changes effective key = held_is set_object set_is changes effective key
