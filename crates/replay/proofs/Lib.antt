mod IntakeLemmas
