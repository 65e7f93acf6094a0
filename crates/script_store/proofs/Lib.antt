mod AlongLemmas
mod HadLemmas
