-- A table is ready in at most one way.
use Rattle.std.proofs.Common.{◌≡◌, ℕ, List}
use mathlib.Core.Logic.{∥∥₁_elim}
use denote.Struct.Props.{props}
use Rattle.links_theory.specs.declared.Node.{Node}
use Rattle.links_theory.specs.Entries.{Entry, Sound, Ready}

one : {A : Type 0} (p q : A) → IsProp A → p ≡ q
one p q h = h p q

entry_prop : (cues : List (List ℕ)) (nodes : List Node) (i : ℕ) (n : Node) → IsProp (Entry cues nodes i n)
entry_prop cues nodes i n p q = λ t.
    record {
      cue = one p.cue q.cue (hlevel props) t;
      some = one p.some q.some (hlevel props) t;
      long = one p.long q.long (hlevel props) t;
      short = one p.short q.short (hlevel props) t;
      low = one p.low q.low (hlevel props) t;
      parent = one p.parent q.parent (hlevel props) t;
      grown = one p.grown q.grown (hlevel props) t;
      link = one p.link q.link (hlevel props) t;
      linked = one p.linked q.linked (hlevel props) t;
      next = one p.next q.next (hlevel props) t;
      chain = one p.chain q.chain (hlevel props) t;
      between = one p.between q.between (hlevel props) t;
    }

sound_prop : (cues : List (List ℕ)) (nodes : List Node) (heads : List ℕ) → IsProp (Sound cues nodes heads)
sound_prop cues nodes heads p q = λ t.
    record {
      some = one p.some q.some (hlevel props) t;
      root_cue = one p.root_cue q.root_cue (hlevel props) t;
      root_len = one p.root_len q.root_len (hlevel props) t;
      heads_long = one p.heads_long q.heads_long (hlevel props) t;
      head = one p.head q.head (hlevel props) t;
      chain = one p.chain q.chain (hlevel props) t;
      newest = one p.newest q.newest (hlevel props) t;
      once = one p.once q.once (hlevel props) t;
      entries = λ i l h. entry_prop cues nodes i _ (p.entries i l h) (q.entries i l h) t;
    }

pub ready_prop : (cues : List (List ℕ)) (nodes : List Node) (heads : List ℕ) (at : ℕ) → IsProp (Ready cues nodes heads at)
ready_prop cues nodes heads at p q = λ t.
    record {
      sound = sound_prop cues nodes heads p.sound q.sound t;
      complete = one p.complete q.complete (hlevel props) t;
      whole = one p.whole q.whole (hlevel props) t;
      within = one p.within q.within (hlevel props) t;
    }

-- what the truncated fact says
pub ready_out : (cues : List (List ℕ)) (nodes : List Node) (heads : List ℕ) (at : ℕ) → ∥ Ready cues nodes heads at ∥₁ → Ready cues nodes heads at
ready_out cues nodes heads at r = ∥∥₁_elim r (ready_prop cues nodes heads at) (λ x. x)
