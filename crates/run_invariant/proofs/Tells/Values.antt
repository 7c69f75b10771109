-- The values that calls are told are below 2^32: each change is of a command, and its reply is that of the object after the
-- older ones. Every allowed step of a client keeps this.
use Rattle.std.proofs.Common.{◌≡◌, ◌∙◌, refl, sym, subst, ap, ℕ, zero, suc, ◌-◌, ◌^◌, ◌<◌, inl, inr, Bool, true, false, List, [], ◌∷◌, ◌++◌, drop, length, Option, Some, None}
use Rattle.lin_report.specs.declared.calls.Op.{Op}
use Rattle.lin_report.specs.declared.calls.Reply.{Reply}
use Rattle.lin_report.specs.declared.calls.Reply.TheVariants.{Value}
use Rattle.lin_report.specs.Commands.{told_value}
use Rattle.lin_report.specs.Object.{IsCommandOf, Object}
use Rattle.lin_report.specs.Tellable.{IsTellable}
use Rattle.lin_report.proofs.Tellable.{IsReached, reached_empty, reached_next, reached_fits}
use Rattle.step_memory.specs.declared.steps.Request.{Request}
use Rattle.step_memory.specs.declared.steps.Seen.{Seen}
use Rattle.normal_traits.specs.declared.lists.Entry.{Entry}
use Rattle.normal_traits.specs.World.{Among, Change, Listed, Maker, Won, World, first_changes, held_after}
use Rattle.normal_traits.specs.World.Maker.{By, Beside}
use Rattle.normal_traits.specs.NormalForm.{NormalForm}
use Rattle.normal_traits.specs.Laws.{Laws, opening_world}
use Rattle.normal_traits.specs.Steps.{IsStep, Requested, change_of, exchanged, listed_if, with_change}
use Rattle.normal_traits.specs.Steps.IsStep.{nothing, elsewhere, clears, searches, wraps, first, first_of_block, second}
use Rattle.normal_traits.specs.Steps.Requested.{loaded, lost, won}

-- ---- each reply is that of the object

-- each change has the reply of the object after the older ones
abbrev pub AreReplied : Object → List Change → Type 0
AreReplied object changes =
    (newer older : List Change) (change : Change) → changes ≡ newer ++ change ∷ older → change.reply ≡ (object.apply change.list.call.op (held_after object older)).1

none_replied : (object : Object) → AreReplied object []
none_replied object [] older change is = absurd (cc)
none_replied object (front ∷ newer) older change is = absurd (cc)

one_replied : (object : Object) (list : Listed) (changes : List Change) → AreReplied object changes → AreReplied object (change_of object list changes ∷ changes)
one_replied object list changes are [] older change is =
    let same : change_of object list changes ≡ change = cc in
    let rest : changes ≡ older = cc in
    subst (λ (l : List Change). change.reply ≡ (object.apply change.list.call.op (held_after object l)).1) rest
    (subst (λ (c : Change). c.reply ≡ (object.apply c.list.call.op (held_after object changes)).1) same refl)
one_replied object list changes are (front ∷ newer) older change is = let rest : changes ≡ newer ++ change ∷ older = cc in are newer older change rest

-- ---- each value that is told is in range

abbrev pub AreCommandsOf : Object → List Change → Type 0
AreCommandsOf object changes = (change : Change) → Among change changes → IsCommandOf object change.list.call.op

-- what is held after them is reached by commands alone
pub commands_reach : (object : Object) (changes : List Change) → AreCommandsOf object changes → IsReached object (held_after object changes)
commands_reach object [] are = reached_empty object
commands_reach object (change ∷ older) are =
    reached_next object change.list.call.op (held_after object older) (are change (inl refl)) (commands_reach object older (λ other among. are other (inr among)))

-- a reply of a command after commands alone tells a value in range
replies_small : (object : Object) → IsTellable object → (changes : List Change) (op : Op) (value : ℕ) → AreCommandsOf object changes → IsCommandOf object op
    → (object.apply op (held_after object changes)).1 ≡ Value value → value < 2 ^ 32
replies_small object tells changes op value are command is =
    let fits = reached_fits object tells op (held_after object changes) command (commands_reach object changes are) in
    subst (λ (r : Reply). told_value r < 2 ^ 32) is fits.value

-- some of the changes are of commands where all are
drop_among : {X : Type 0} (x : X) (count : ℕ) (xs : List X) → Among x (drop count xs) → Among x xs
drop_among x zero xs among = among
drop_among x (suc count) [] among = among
drop_among x (suc count) (y ∷ ys) among = inr (drop_among x count ys among)

older_among : {X : Type 0} (x y : X) (newer older : List X) → Among x older → Among x (newer ++ y ∷ older)
older_among x y [] older among = inr among
older_among x y (z ∷ newer) older among = inr (older_among x y newer older among)

-- and one among them stands in front of others
pub among_split : {X : Type 0} (x : X) (xs : List X) → Among x xs → (newer : List X) × (older : List X) × (xs ≡ newer ++ x ∷ older)
among_split x [] among = absurd among
among_split x (y ∷ ys) (inl same) = ([], ys, ap (λ z. z ∷ ys) (sym same))
among_split x (y ∷ ys) (inr among) = let rest = among_split x ys among in (y ∷ rest.0, rest.1, ap (λ zs. y ∷ zs) rest.2)

pub same_list : (list other : Listed) (j k : ℕ) → By list j ≡ By other k → list ≡ other
same_list list other j k same = cc

pub beside_by : {A : Type 0} (list : Listed) (j : ℕ) → Beside ≡ By list j → A
beside_by list j same = absurd cc

module _ {S W : Type 0} (form : NormalForm S W) where
  -- each list of which an entry took effect is of a command; so is each change, and its reply is that of the object
  pub record AnswersWell (world : World) : Type 0 where
    pub listed : (list : Listed) (j : ℕ) (taken : Won) → Among taken world.journal → taken.maker ≡ By list j → IsCommandOf form.object list.call.op
    pub commands : AreCommandsOf form.object world.changes
    pub replied : AreReplied form.object world.changes

  -- a value that a command is told after some of the changes is in range
  pub answer_small : (world : World) (op : Op) (count value : ℕ) → AnswersWell world → IsCommandOf form.object op
      → (form.object.apply op (held_after form.object (first_changes count world.changes))).1 ≡ Value value → value < 2 ^ 32
  answer_small world op count value well command is =
      replies_small form.object form.tellable (first_changes count world.changes) op value (λ change among. well.commands change (drop_among change (length world.changes - count) world.changes among)) command is

  -- so is one that a change tells
  pub change_small : (world : World) (change : Change) (value : ℕ) → AnswersWell world → Among change world.changes → change.reply ≡ Value value → value < 2 ^ 32
  change_small world change value well among is =
      let split = among_split change world.changes among in
      let older : AreCommandsOf form.object split.1 = λ other inside. well.commands other (subst (Among other) (sym split.2) (older_among other change split.0 split.1 inside)) in
      replies_small form.object form.tellable split.1 change.list.call.op value older (well.commands change among) (sym (well.replied split.0 split.1 change split.2) ∙ is)

  -- ---- it holds always

  pub answers_open : AnswersWell (opening_world form)
  answers_open = record { listed = λ list j taken among maker. absurd among; commands = λ change among. absurd among; replied = none_replied form.object }

  -- a world with the same changes and won exchanges
  answers_same : (world after : World) → after.changes ≡ world.changes → after.journal ≡ world.journal → AnswersWell world → AnswersWell after
  answers_same world after changes journal well = record {
    listed = λ list j taken among. well.listed list j taken (subst (Among taken) journal among);
    commands = subst (AreCommandsOf form.object) (sym changes) well.commands;
    replied = subst (AreReplied form.object) (sym changes) well.replied;
  }

  -- one change more, of a command
  change_commands : (list : Option Listed) (changes : List Change) → ((one : Listed) → list ≡ Some one → IsCommandOf form.object one.call.op) → AreCommandsOf form.object changes
      → AreCommandsOf form.object (with_change form.object list changes)
  change_commands None changes command are change among = are change among
  change_commands (Some list) changes command are change (inl new) = subst (λ (c : Change). IsCommandOf form.object c.list.call.op) (sym new) (command list refl)
  change_commands (Some list) changes command are change (inr old) = are change old

  change_replied : (list : Option Listed) (changes : List Change) → AreReplied form.object changes → AreReplied form.object (with_change form.object list changes)
  change_replied None changes are newer older change = are newer older change
  change_replied (Some list) changes are newer older change = one_replied form.object list changes are newer older change

  -- an exchange, whose maker and whose change are of commands
  exchange_answers : (world : World) (maker : Maker) (list : Option Listed) (entry : Entry) (word : ℕ) → ((one : Listed) (j : ℕ) → maker ≡ By one j → IsCommandOf form.object one.call.op)
      → ((one : Listed) → list ≡ Some one → IsCommandOf form.object one.call.op) → AnswersWell world → AnswersWell (exchanged form maker list entry word world)
  exchange_answers world maker list entry word by command well = record {
    listed = λ one j taken among made. elim among [ inl new ↦ by one j (sym (ap (λ (w : Won). w.maker) new) ∙ made) | inr old ↦ well.listed one j taken old made ];
    commands = change_commands list world.changes command well.commands;
    replied = change_replied list world.changes well.replied;
  }

  of_list : (adds : Bool) (list one : Listed) → IsCommandOf form.object list.call.op → listed_if adds list ≡ Some one → IsCommandOf form.object one.call.op
  of_list true list one command is = (let same : list ≡ one = cc in subst (λ (l : Listed). IsCommandOf form.object l.call.op) same command)
  of_list false list one command is = absurd cc

  entry_answers : (world : World) (list : Listed) (j : ℕ) (entry : Entry) (word : ℕ) → IsCommandOf form.object list.call.op → AnswersWell world → AnswersWell (exchanged form (By list j) (listed_if (form.adds list j) list) entry word world)
  entry_answers world list j entry word command =
      exchange_answers world (By list j) (listed_if (form.adds list j) list) entry word
      (λ one k is. subst (λ (l : Listed). IsCommandOf form.object l.call.op) (same_list list one j k is) command) (λ one is. of_list (form.adds list j) list one command is)

  module _ (laws : Laws form) where
    -- a change beside the lists is that of a list which took effect
    request_answers : (request : Request) (world after : World) (seen : Seen) → form.shape world → Requested form request world after seen → AnswersWell world → AnswersWell after
    request_answers request world after seen shape (loaded place) well = well
    request_answers request world after seen shape (lost place from to differs) well = well
    request_answers request world after seen shape (won place from to stood raised) well =
        let entry : Entry = record { target = place; from = from; to = to } in
        exchange_answers world Beside (form.adds_beside world entry) entry to (λ one j is. beside_by one j is)
        (λ one is. (let before = (laws.of_world.beside world one entry shape is).1 in well.listed one 0 _ before.won refl)) well

    -- every allowed step keeps it
    pub answers_kept : (world after : World) → form.shape world → IsStep form world after → AnswersWell world → AnswersWell after
    answers_kept world after shape nothing well = well
    answers_kept world after shape (elsewhere place word is) well = answers_same world _ refl refl well
    answers_kept world after shape (clears place is versioned listable) well = answers_same world _ refl refl well
    answers_kept world after shape (searches {seen = seen} one op since command asking knows r) well = request_answers (form.request_of one) world after seen shape r well
    answers_kept world after shape (wraps {seen = seen} wrap list stop command asking follows r) well = request_answers (form.wrap_request_of wrap) world after seen shape r well
    answers_kept world after shape (first list one since entry word offered fresh block needs listed at is) well = entry_answers world list 0 entry word offered.command well
    answers_kept world after shape (first_of_block list one since entry word offered fresh some unused filled listed at is) well =
        answers_same (exchanged form (By list 0) (listed_if (form.adds list 0) list) entry word world) _ refl refl (entry_answers world list 0 entry word offered.command well)
    answers_kept world after shape (second list one since entry word offered took fails listed at is) well = entry_answers world list 1 entry word offered.command well
