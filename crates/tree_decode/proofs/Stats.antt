-- Stat numbers that are all 0.
use Rattle.std.proofs.Common.{◌≡◌, ℕ, refl}
use Rattle.entry_fields.specs.declared.entry.stat.Stat.{Stat}
use Rattle.tree_decode.specs.Leaves.{zero_stat}

of_zeros : (a b c d e f g h i : ℕ) → a ≡ 0 → b ≡ 0 → c ≡ 0 → d ≡ 0 → e ≡ 0 → f ≡ 0 → g ≡ 0 → h ≡ 0 → i ≡ 0
    → ◌≡◌ {A = Stat} (record {
      mtime = record { secs = a; nsecs = b };
      ctime = record { secs = c; nsecs = d };
      dev = e;
      ino = f;
      uid = g;
      gid = h;
      size = i;
    }) zero_stat
of_zeros a b c d e f g h i p q r s t u v w x = rw (p, q, r, s, t, u, v, w, x) refl

pub stat_of_zeros : (s : Stat)
    → (((s.mtime.secs ≡ 0) × (s.mtime.nsecs ≡ 0)) × (((s.ctime.secs ≡ 0) × (s.ctime.nsecs ≡ 0))
    × ((s.dev ≡ 0) × ((s.ino ≡ 0) × ((s.uid ≡ 0) × ((s.gid ≡ 0) × (s.size ≡ 0))))))) → s ≡ zero_stat
stat_of_zeros s h = of_zeros s.mtime.secs s.mtime.nsecs s.ctime.secs s.ctime.nsecs s.dev s.ino s.uid s.gid s.size h.0.0
    h.0.1 h.1.0.0 h.1.0.1 h.1.1.0 h.1.1.1.0 h.1.1.1.1.0 h.1.1.1.1.1.0 h.1.1.1.1.1.1
