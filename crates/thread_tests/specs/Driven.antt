-- What a port keeps while its seat makes steps.
use Rattle.std.specs.Prelude.{◌≡◌, ℕ, true, []}
use Rattle.shared_memory.specs.declared.view.View.{View}

module _ {C S W : Type 0} where
  -- the port is of the same seat, and has gathered and counted the same
  pub record Stays (v w : View C S W) : Type 0 where
    pub seat : w.machine.seat ≡ v.machine.seat
    pub setup : w.machine.setup ≡ v.machine.setup
    pub gathered : w.gathered ≡ v.gathered
    pub root : w.root ≡ v.root
    pub made : w.made ≡ v.made

  -- the port is that of seat 0, has split so many seats off, and has gathered none
  pub record IsRoot (made : ℕ) (v : View C S W) : Type 0 where
    pub seat : v.machine.seat ≡ 0
    pub none : v.gathered ≡ []
    pub root : v.root ≡ true
    pub split : v.made ≡ made
