-- Moments that are the same in each part.
use Rattle.std.proofs.Common.{◌≡◌, ℕ, List}
use Rattle.unit_steps.specs.Moments.{Moment}

pub same_moment : (m n : Moment) → m.top ≡ n.top → m.frames ≡ n.frames → m.search ≡ n.search → m.macros ≡ n.macros → ((path : List ℕ) → m.once path ≡ n.once path) →
    m.entered ≡ n.entered → m.builder ≡ n.builder → m ≡ n
same_moment m n top frames search macros once entered builder = λ i. record {
  top = top i;
  frames = frames i;
  search = search i;
  macros = macros i;
  once = λ path. once path i;
  entered = entered i;
  builder = builder i;
}
