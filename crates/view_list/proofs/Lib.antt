mod Directed
